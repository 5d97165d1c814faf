-- What a capture's file is, after the capture file format 2.4: a header of 24 bytes, and then a record for each frame.
use Rattle.std.specs.Prelude.{◌≡◌, ◌<◌, ◌≤◌, ◌^◌, ◌/◌, ℕ, List, [], ◌∷◌, ◌++◌, length, take, drop}
use Rattle.std.specs.List.{flat_map}
use Rattle.ifl_base.specs.declared.ticket.Stamp.{Stamp}
use Rattle.ifl_pcap.specs.declared.form.Order.{Order}
use Rattle.ifl_pcap.specs.declared.form.Order.TheVariants.{Little, Big}
use Rattle.ifl_pcap.specs.declared.form.Fraction.{Fraction}
use Rattle.ifl_pcap.specs.declared.form.Fraction.TheVariants.{Micros, Nanos}
use Rattle.ifl_pcap.specs.declared.form.Form.{Form}
use Rattle.ifl_pcap.specs.declared.frame.Frame.{Frame}
use Rattle.ifl_pcap.specs.Numbers.{spelled_in}

-- magic a1b2c3d4 for microseconds and a1b23c4d for nanoseconds, in the order of all later numbers
abbrev pub magic_of : Order → Fraction → List ℕ
magic_of Little Micros = 0xd4 ∷ 0xc3 ∷ 0xb2 ∷ 0xa1 ∷ []
magic_of Little Nanos = 0x4d ∷ 0x3c ∷ 0xb2 ∷ 0xa1 ∷ []
magic_of Big Micros = 0xa1 ∷ 0xb2 ∷ 0xc3 ∷ 0xd4 ∷ []
magic_of Big Nanos = 0xa1 ∷ 0xb2 ∷ 0x3c ∷ 0x4d ∷ []

abbrev pub magic : Form → List ℕ
magic form = magic_of form.order form.fraction

-- version 2.4, in two numbers of 16 bits
abbrev pub version : Order → List ℕ
version Little = 2 ∷ 0 ∷ 4 ∷ 0 ∷ []
version Big = 0 ∷ 2 ∷ 0 ∷ 4 ∷ []

-- the low 16 bits of the link type, which are 1 for Ethernet
abbrev pub ethernet : Order → List ℕ
ethernet Little = 1 ∷ 0 ∷ []
ethernet Big = 0 ∷ 1 ∷ []

-- where they stand: the link type begins at 20
abbrev pub link_place : Order → ℕ
link_place Little = 20
link_place Big = 22

-- the bytes begin with a header: any zone, accuracy and snap length stand between, and any upper half of the link type
pub record HasHeader (form : Form) (bytes : List ℕ) : Type 0 where
  pub long : 24 ≤ length bytes
  pub begins : take 4 bytes ≡ magic form
  pub revision : take 4 (drop 4 bytes) ≡ version form.order
  pub link : take 2 (drop (link_place form.order) bytes) ≡ ethernet form.order

-- the microseconds of a fraction of a second, rounded down
abbrev pub micros : Fraction → ℕ → ℕ
micros Micros fraction = fraction
micros Nanos fraction = fraction / 1000

-- seconds, fraction, captured length and original length, and then the captured bytes
abbrev pub record_with : Order → ℕ → Frame → List ℕ
record_with order fraction f =
    spelled_in order f.stamp.sec ++ (spelled_in order fraction ++ (spelled_in order (length f.bytes) ++ (spelled_in order f.stamp.orig ++ f.bytes)))

-- no frame of a file is longer
abbrev pub IsShort : Frame → Type 0
IsShort f = length f.bytes ≤ 262144

-- the numbers of a stamp have 32 bits
abbrev pub IsStamp : Stamp → Type 0
IsStamp s = (s.sec < 2 ^ 32) × (s.usec < 2 ^ 32) × (s.orig < 2 ^ 32)

-- what a record can hold
pub record Fits (f : Frame) : Type 0 where
  pub sec : f.stamp.sec < 2 ^ 32
  pub usec : f.stamp.usec < 2 ^ 32
  pub orig : f.stamp.orig < 2 ^ 32
  pub bytes : IsShort f

-- the bytes begin with this frame's record, and the rest stands behind it
pub record IsRecord (form : Form) (f : Frame) (bytes rest : List ℕ) : Type 0 where
  pub fraction : ℕ
  pub counted : fraction < 2 ^ 32
  pub time : f.stamp.usec ≡ micros form.fraction fraction
  pub fit : Fits f
  pub parts : bytes ≡ record_with form.order fraction f ++ rest

-- the bytes begin with these frames' records, one after another, and the rest stands behind them
abbrev pub AreRecords : Form → List Frame → List ℕ → List ℕ → Type 0
AreRecords form [] bytes rest = bytes ≡ rest
AreRecords form (f ∷ fs) bytes rest = (others : List ℕ) × IsRecord form f bytes others × AreRecords form fs others rest

-- these bytes are the file of these frames: a header, and then their records up to the end
pub record IsFile (bytes : List ℕ) (frames : List Frame) : Type 0 where
  pub form : Form
  pub header : HasHeader form bytes
  pub records : AreRecords form frames (drop 24 bytes) []

-- the form of a written file
abbrev pub written_form : Form
written_form = record { order = Little; fraction = Micros }

-- a written record: the lowest byte first, and microseconds
abbrev pub record_of : Frame → List ℕ
record_of f = record_with Little f.stamp.usec f

-- the header of a written file: zone 0, accuracy 0, snap length 262,144, Ethernet
unfoldable pub written_header : List ℕ
written_header =
    magic_of Little Micros ++ (version Little ++ (0 ∷ 0 ∷ 0 ∷ 0 ∷ 0 ∷ 0 ∷ 0 ∷ 0 ∷ 0 ∷ 0 ∷ 4 ∷ 0 ∷ 1 ∷ 0 ∷ 0 ∷ 0 ∷ []))

-- the one file that is written for these frames
abbrev pub written : List Frame → List ℕ
written frames = written_header ++ flat_map record_of frames
