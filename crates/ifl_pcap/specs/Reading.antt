-- A capture's file read from left to right.
use Rattle.std.specs.Prelude.{◌≡◌, ◌+◌, ℕ, zero, suc, List, [], ◌∷◌, length, take, drop, Option, Some, None, Result, Ok, Err, nat_lt, if◌then◌else◌}
use Rattle.std.specs.Str.{bytes_eq}
use Rattle.ifl_base.specs.declared.ticket.Stamp.{Stamp}
use Rattle.ifl_pcap.specs.declared.form.Order.TheVariants.{Little, Big}
use Rattle.ifl_pcap.specs.declared.form.Fraction.TheVariants.{Micros, Nanos}
use Rattle.ifl_pcap.specs.declared.form.Form.{Form}
use Rattle.ifl_pcap.specs.declared.frame.Frame.{Frame}
use Rattle.ifl_pcap.specs.declared.fault.CaptureWhy.{CaptureWhy}
use Rattle.ifl_pcap.specs.declared.fault.CaptureWhy.TheVariants.{Short, Magic, Version, Link, RecordShort, TooLong}
use Rattle.ifl_pcap.specs.declared.fault.CaptureFault.{CaptureFault}
use Rattle.ifl_pcap.specs.declared.fault.CaptureFault.TheVariants.{Bad, Memory}
use Rattle.ifl_pcap.specs.Numbers.{number_in}
use Rattle.ifl_pcap.specs.File.{magic_of, version, ethernet, link_place, micros}
use Rattle.ifl_pcap.specs.Faults.{announced}

infixl 10 ◌>>=◌
-- one step after another, until one fails
abbrev pub ◌>>=◌ : {A B : Type 0} → Result A CaptureFault → (A → Result B CaptureFault) → Result B CaptureFault
(Ok x) >>= f = f x
(Err e) >>= f = Err e

-- what a reader answers where it fails: want of memory at any time, and a fault where the reading has it
abbrev pub Fails : {Y : Type 0} → CaptureFault → Result Y CaptureFault → Type 0
Fails Memory read = Unit {0}
Fails (Bad at why) read = read ≡ Err (Bad at why)

-- what a reader answers, seen by view, is what the reading gives, unless memory ran out
abbrev pub Gives : {X Y : Type 0} → (X → Y) → Result X CaptureFault → Result Y CaptureFault → Type 0
Gives view (Ok x) read = read ≡ Ok (view x)
Gives view (Err e) read = Fails e read

abbrev pub bad : {A : Type 0} → ℕ → CaptureWhy → Result A CaptureFault
bad at why = Err (Bad at why)

-- the form whose magic this is
unfoldable pub form_of : List ℕ → Option Form
form_of bytes =
    if bytes_eq bytes (magic_of Little Micros) then Some (record { order = Little; fraction = Micros }) else
    (if bytes_eq bytes (magic_of Little Nanos) then Some (record { order = Little; fraction = Nanos }) else
    (if bytes_eq bytes (magic_of Big Micros) then Some (record { order = Big; fraction = Micros }) else
    (if bytes_eq bytes (magic_of Big Nanos) then Some (record { order = Big; fraction = Nanos }) else None)))

-- the form, if version and link type are as they should be
abbrev pub header_of : Option Form → List ℕ → Result Form CaptureFault
header_of None bytes = bad 0 Magic
header_of (Some form) bytes =
    if bytes_eq (take 4 (drop 4 bytes)) (version form.order) then
    (if bytes_eq (take 2 (drop (link_place form.order) bytes)) (ethernet form.order) then Ok form else bad 20 Link)
    else bad 4 Version

-- the form of the header at the front
unfoldable pub header_at : List ℕ → Result Form CaptureFault
header_at bytes = if nat_lt (length bytes) 24 then bad 0 Short else header_of (form_of (take 4 bytes)) bytes

-- the stamp of the record at the front
unfoldable pub stamp_at : Form → List ℕ → Stamp
stamp_at form bytes = record {
  sec = number_in form.order bytes;
  usec = micros form.fraction (number_in form.order (drop 4 bytes));
  orig = number_in form.order (drop 12 bytes);
}

-- the frame of the record at the front, which begins at this place of the file, and the bytes behind it
unfoldable pub frame_at : Form → ℕ → List ℕ → Result (Frame × List ℕ) CaptureFault
frame_at form at bytes =
    if nat_lt (length bytes) 16 then bad at RecordShort else
    (if nat_lt 262144 (announced form.order bytes) then bad at TooLong else
    (if nat_lt (length (drop 16 bytes)) (announced form.order bytes) then bad at RecordShort else
    Ok (record { stamp = stamp_at form bytes; bytes = take (announced form.order bytes) (drop 16 bytes) }, drop (announced form.order bytes) (drop 16 bytes))))

-- the frames of all records up to the end, of which there are no more than the fuel; each record takes 16 bytes at least
unfoldable pub frames_at : Form → ℕ → ℕ → List ℕ → Result (List Frame) CaptureFault
frames_at form fuel at [] = Ok []
frames_at form zero at (b ∷ bytes) = bad at RecordShort
frames_at form (suc fuel) at (b ∷ bytes) = do
  first ← frame_at form at (b ∷ bytes)
  others ← frames_at form fuel (at + (16 + length first.0.bytes)) first.1
  Ok (first.0 ∷ others)

-- the frames of a whole file
unfoldable pub capture_of : List ℕ → Result (List Frame) CaptureFault
capture_of bytes = do
  form ← header_at bytes
  frames_at form (length (drop 24 bytes)) 24 (drop 24 bytes)
