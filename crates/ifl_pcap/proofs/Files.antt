-- Bytes are a file or have a first fault, and are read as either.
use Rattle.std.proofs.Common.{◌≡◌, ◌⊎◌, ℕ, zero, suc, ◌+◌, ◌-◌, ◌*◌, ◌<◌, ◌≤◌, List, [], ◌∷◌, ◌++◌, length, drop, Result, Ok, Err, refl, sym, ap, subst, ◌∙◌, append_assoc, arith, inl, inr}
use Rattle.std.specs.List.{AllByRecursion}
use Rattle.std.proofs.lemmas.List.{length-drop, append-nil}
use Rattle.ifl_pcap.specs.declared.form.Form.{Form}
use Rattle.ifl_pcap.specs.declared.frame.Frame.{Frame}
use Rattle.ifl_pcap.specs.declared.fault.CaptureWhy.{CaptureWhy}
use Rattle.ifl_pcap.specs.declared.fault.CaptureWhy.TheVariants.{Short, Magic, Version, Link, RecordShort, TooLong}
use Rattle.ifl_pcap.specs.declared.fault.CaptureFault.{CaptureFault}
use Rattle.ifl_pcap.specs.declared.fault.CaptureFault.TheVariants.{Bad, Memory}
use Rattle.ifl_pcap.specs.File.{HasHeader, AreRecords, Fits, IsFile, IsShort}
use Rattle.ifl_pcap.specs.Faults.{IsBadRecord, IsRecordFault, IsFirstFault, IsFaultOf}
use Rattle.ifl_pcap.specs.Reading.{◌>>=◌, Fails, bad, frame_at, header_at, frames_at, capture_of}
use Rattle.ifl_pcap.proofs.Numbers.{IsBytes, IsBytes-drop}
use Rattle.ifl_pcap.proofs.Records.{length-IsRecord, frame_at-IsRecord, frame_at-IsBadRecord, record_or_not, ok_is, ok_or_bad}
use Rattle.ifl_pcap.proofs.Headers.{header_at-HasHeader, header_at-Short, header_at-Magic, header_at-Version, header_at-Link, header_or_fault}

abbrev pub with_front : List Frame → Result (List Frame) CaptureFault → Result (List Frame) CaptureFault
with_front front read = read >>= λ fs. Ok (front ++ fs)

pub unchanged : (read : Result (List Frame) CaptureFault) → with_front [] read ≡ read
unchanged (Ok fs) = refl
unchanged (Err e) = refl

pub regroup : (front more : List Frame) (read : Result (List Frame) CaptureFault) → with_front front (with_front more read) ≡ with_front (front ++ more) read
regroup front more (Ok fs) = ap (λ (x : List Frame). Ok x) (sym (append_assoc front more fs))
regroup front more (Err e) = refl

-- at least one byte, as a list
cells : (xs : List ℕ) → 0 < length xs → (b : ℕ) × (bs : List ℕ) × (xs ≡ b ∷ bs)
cells [] h = absurd (omega arith)
cells (b ∷ bs) h = (b, bs, refl)

-- the frames behind a frame
abbrev then_frames : Form → ℕ → ℕ → Result (Frame × List ℕ) CaptureFault → Result (List Frame) CaptureFault
then_frames form fuel at read = read >>= λ first. frames_at form fuel (at + (16 + length first.0.bytes)) first.1 >>= λ others. Ok (first.0 ∷ others)

frames_at-suc : (form : Form) (fuel at : ℕ) (bytes : List ℕ) → 0 < length bytes → frames_at form (suc fuel) at bytes ≡ then_frames form fuel at (frame_at form at bytes)
unfolding frames_at
frames_at-suc form fuel at [] h = absurd (omega arith)
frames_at-suc form fuel at (b ∷ bs) h = refl

pub frames_at-nil : (form : Form) (fuel at : ℕ) → frames_at form fuel at [] ≡ Ok []
unfolding frames_at
frames_at-nil form zero at = refl
frames_at-nil form (suc fuel) at = refl

-- a frame is read, and then the others
pub frames_at-Ok : (form : Form) (fuel at : ℕ) (bytes : List ℕ) (f : Frame) (rest : List ℕ) → 0 < length bytes → frame_at form at bytes ≡ Ok (f, rest) → frames_at form (suc fuel) at bytes ≡ with_front (f ∷ []) (frames_at form fuel (at + (16 + length f.bytes)) rest)
frames_at-Ok form fuel at bytes f rest some is = frames_at-suc form fuel at bytes some ∙ ap (then_frames form fuel at) is

pub frames_at-bad : (form : Form) (fuel at : ℕ) (bytes : List ℕ) (e : CaptureFault) → 0 < length bytes → frame_at form at bytes ≡ Err e → frames_at form (suc fuel) at bytes ≡ Err e
frames_at-bad form fuel at bytes e some is = frames_at-suc form fuel at bytes some ∙ ap (then_frames form fuel at) is

pub one_less : (n fuel : ℕ) → 0 < n → n ≤ fuel → (k : ℕ) × (fuel ≡ suc k)
one_less n zero some le = absurd (omega arith)
one_less n (suc k) some le = (k, refl)

-- the frames of these records are read, and what is read behind them stands at this place
record Continues (form : Form) (fs : List Frame) (at : ℕ) (bytes rest : List ℕ) (read : Result (List Frame) CaptureFault) : Type 0 where
  fuel : ℕ
  enough : length rest ≤ fuel
  place : ℕ
  place_is : place + length rest ≡ at + length bytes
  all : read ≡ with_front fs (frames_at form fuel place rest)

continues : (form : Form) (fs : List Frame) (fuel at : ℕ) (bytes rest : List ℕ) → length bytes ≤ fuel → AreRecords form fs bytes rest → Continues form fs at bytes rest (frames_at form fuel at bytes)
continues form [] fuel at bytes rest enough is =
    subst (λ (r : List ℕ). Continues form [] at bytes r (frames_at form fuel at bytes)) is (record { fuel = fuel; enough = enough; place = at; place_is = refl; all = sym (unchanged (frames_at form fuel at bytes)) })
continues form (f ∷ fs) zero at bytes rest enough is = absurd (omega (arith, enough, length-IsRecord form f bytes is.0 is.1))
continues form (f ∷ fs) (suc fuel) at bytes rest enough is =
    let long = length-IsRecord form f bytes is.0 is.1 in
    let next = at + (16 + length f.bytes) in
    let c = continues form fs fuel next is.0 rest (omega (arith, enough, long)) is.2 in
    record {
      fuel = c.fuel;
      enough = c.enough;
      place = c.place;
      place_is = omega (arith, c.place_is, long);
      all = frames_at-Ok form fuel at bytes f is.0 (omega (arith, long)) (frame_at-IsRecord form at f bytes is.0 is.1) ∙ ap (with_front (f ∷ [])) c.all ∙ regroup (f ∷ []) fs (frames_at form c.fuel c.place rest);
    }

-- behind a header the frames are read
pub capture_of-header_at : (form : Form) (bytes : List ℕ) → header_at bytes ≡ Ok form → capture_of bytes ≡ frames_at form (length (drop 24 bytes)) 24 (drop 24 bytes)
unfolding capture_of
capture_of-header_at form bytes is = ap (λ (r : Result Form CaptureFault). r >>= λ form. frames_at form (length (drop 24 bytes)) 24 (drop 24 bytes)) is

after_header : (form : Form) (bytes : List ℕ) → HasHeader form bytes → capture_of bytes ≡ frames_at form (length (drop 24 bytes)) 24 (drop 24 bytes)
after_header form bytes h = capture_of-header_at form bytes (header_at-HasHeader form bytes h)

pub no_header : (bytes : List ℕ) (e : CaptureFault) → header_at bytes ≡ Err e → capture_of bytes ≡ Err e
unfolding capture_of
no_header bytes e is = ap (λ (r : Result Form CaptureFault). r >>= λ form. frames_at form (length (drop 24 bytes)) 24 (drop 24 bytes)) is

pub capture_of-IsFile : (bytes : List ℕ) (fs : List Frame) → IsFile bytes fs → capture_of bytes ≡ Ok fs
capture_of-IsFile bytes fs file =
    let c = continues file.form fs (length (drop 24 bytes)) 24 (drop 24 bytes) [] (omega arith) file.records in
    after_header file.form bytes file.header ∙ c.all ∙ ap (with_front fs) (frames_at-nil file.form c.fuel c.place) ∙ ap (λ (x : List Frame). Ok x) (append-nil fs)

capture_of-IsRecordFault : (bytes : List ℕ) (at : ℕ) (why : CaptureWhy) → IsRecordFault bytes at why → capture_of bytes ≡ bad at why
capture_of-IsRecordFault bytes at why h =
    let c = continues h.form h.frames (length (drop 24 bytes)) 24 (drop 24 bytes) h.rest (omega arith) h.records in
    let k = one_less (length h.rest) c.fuel (omega (arith, h.some)) c.enough in
    let place : c.place ≡ at = omega (arith, c.place_is, h.place, h.header.long, length-drop 24 bytes) in
    let stops : frames_at h.form c.fuel c.place h.rest ≡ bad at why =
    ap (λ (n : ℕ). frames_at h.form n c.place h.rest) k.1 ∙ ap (λ (p : ℕ). frames_at h.form (suc k.0) p h.rest) place
    ∙ frames_at-bad h.form k.0 at h.rest (Bad at why) (omega (arith, h.some)) (frame_at-IsBadRecord h.form at why h.rest h.wrong) in
    after_header h.form bytes h.header ∙ c.all ∙ ap (with_front h.frames) stops

pub capture_of-IsFirstFault : (bytes : List ℕ) (at : ℕ) (why : CaptureWhy) → IsFirstFault bytes at why → capture_of bytes ≡ bad at why
capture_of-IsFirstFault bytes at Short h = rw h.0 (no_header bytes (Bad 0 Short) (header_at-Short bytes h.1))
capture_of-IsFirstFault bytes at Magic h = rw h.0 (no_header bytes (Bad 0 Magic) (header_at-Magic bytes h.1 h.2))
capture_of-IsFirstFault bytes at Version h = rw h.0 (no_header bytes (Bad 4 Version) (header_at-Version h.1 bytes h.2))
capture_of-IsFirstFault bytes at Link h = rw h.0 (no_header bytes (Bad 20 Link) (header_at-Link h.1 bytes h.2))
capture_of-IsFirstFault bytes at RecordShort h = capture_of-IsRecordFault bytes at RecordShort h
capture_of-IsFirstFault bytes at TooLong h = capture_of-IsRecordFault bytes at TooLong h

-- records up to the end
record HasRecords (form : Form) (bytes : List ℕ) : Type 0 where
  frames : List Frame
  are : AreRecords form frames bytes []

-- records up to one at which something is wrong
record HasWrongRecord (form : Form) (bytes : List ℕ) : Type 0 where
  frames : List Frame
  rest : List ℕ
  are : AreRecords form frames bytes rest
  some : 1 ≤ length rest
  why : CaptureWhy
  wrong : IsBadRecord form.order rest why

records_or_not : (form : Form) (fuel : ℕ) (bytes : List ℕ) → IsBytes bytes → length bytes ≤ fuel → HasRecords form bytes ⊎ HasWrongRecord form bytes
records_or_not form fuel [] fits enough = inl (record { frames = []; are = refl })
records_or_not form zero (b ∷ bytes) fits enough = absurd (omega arith)
records_or_not form (suc fuel) (b ∷ bytes) fits enough =
    elim (record_or_not form (b ∷ bytes) fits) [
      | inr n ↦ inr (record { frames = []; rest = b ∷ bytes; are = refl; some = omega arith; why = n.why; wrong = n.wrong })
      | inl r ↦ elim (records_or_not form fuel r.rest r.rest_fits (omega (arith, enough, length-IsRecord form r.frame (b ∷ bytes) r.rest r.is))) [
        | inl all ↦ inl (record { frames = r.frame ∷ all.frames; are = (r.rest, r.is, all.are) })
        | inr n ↦ inr (record { frames = r.frame ∷ n.frames; rest = n.rest; are = (r.rest, r.is, n.are); some = n.some; why = n.why; wrong = n.wrong })
      ]
    ]

length-AreRecords : (form : Form) (fs : List Frame) (bytes rest : List ℕ) → AreRecords form fs bytes rest → 16 * length fs + length rest ≤ length bytes
length-AreRecords form [] bytes rest is = omega (arith, ap length is)
length-AreRecords form (f ∷ fs) bytes rest is = omega (arith, length-IsRecord form f bytes is.0 is.1, length-AreRecords form fs is.0 rest is.2)

-- where a record is wrong, its fault is the first
is_first : (bytes : List ℕ) (at : ℕ) (form : Form) (rest : List ℕ) (why : CaptureWhy) → IsBadRecord form.order rest why → IsRecordFault bytes at why → IsFirstFault bytes at why
is_first bytes at form rest RecordShort wrong h = h
is_first bytes at form rest TooLong wrong h = h
is_first bytes at form rest Short wrong h = absurd wrong
is_first bytes at form rest Magic wrong h = absurd wrong
is_first bytes at form rest Version wrong h = absurd wrong
is_first bytes at form rest Link wrong h = absurd wrong

-- bytes are a file, or have a first fault
pub file_or_fault : (bytes : List ℕ) → IsBytes bytes → ((fs : List Frame) × IsFile bytes fs) ⊎ ((at : ℕ) × (why : CaptureWhy) × IsFirstFault bytes at why)
file_or_fault bytes fits =
    elim (header_or_fault bytes) [
      | inr fault ↦ inr (fault.at, fault.why, fault.first)
      | inl h ↦ elim (records_or_not h.form (length (drop 24 bytes)) (drop 24 bytes) (IsBytes-drop 24 bytes fits) (omega arith)) [
        | inl all ↦ inl (all.frames, record { form = h.form; header = h.header; records = all.are })
        | inr n ↦ let at = length bytes - length n.rest in
            let place : at + length n.rest ≡ length bytes = omega (arith, length-AreRecords h.form n.frames (drop 24 bytes) n.rest n.are, length-drop 24 bytes) in
            inr (at, n.why, is_first bytes at h.form n.rest n.why n.wrong (record { form = h.form; header = h.header; frames = n.frames; rest = n.rest; records = n.are; some = n.some; place = place; wrong = n.wrong }))
      ]
    ]

abbrev failed : CaptureFault → Result (List Frame) CaptureFault
failed e = Err e

fault_is : (a b : CaptureFault) → failed a ≡ failed b → a ≡ b
fault_is a b e = cc

pub not_file_and_fault : (bytes : List ℕ) (fs : List Frame) (at : ℕ) (why : CaptureWhy) → IsFile bytes fs → IsFirstFault bytes at why → ⊥
not_file_and_fault bytes fs at why file fault = ok_or_bad fs at why (sym (capture_of-IsFirstFault bytes at why fault) ∙ capture_of-IsFile bytes fs file)

pub one_list_of_frames : (bytes : List ℕ) (fs gs : List Frame) → IsFile bytes fs → IsFile bytes gs → fs ≡ gs
one_list_of_frames bytes fs gs file other = ok_is fs gs (sym (capture_of-IsFile bytes fs file) ∙ capture_of-IsFile bytes gs other)

same_bad : (at place : ℕ) (why other : CaptureWhy) → Bad at why ≡ Bad place other → (at ≡ place) × (why ≡ other)
same_bad at place why other e = (cc, cc)

pub one_first_fault : (bytes : List ℕ) (at place : ℕ) (why other : CaptureWhy) → IsFirstFault bytes at why → IsFirstFault bytes place other → (at ≡ place) × (why ≡ other)
one_first_fault bytes at place why other first second =
    same_bad at place why other (fault_is (Bad at why) (Bad place other) (sym (capture_of-IsFirstFault bytes at why first) ∙ capture_of-IsFirstFault bytes place other second))

pub IsFile-capture_of : (bytes : List ℕ) (fs : List Frame) → IsBytes bytes → capture_of bytes ≡ Ok fs → IsFile bytes fs
IsFile-capture_of bytes fs fits e =
    elim (file_or_fault bytes fits) [
      | inl h ↦ subst (IsFile bytes) (ok_is h.0 fs (sym (capture_of-IsFile bytes h.0 h.1) ∙ e)) h.1
      | inr h ↦ absurd (ok_or_bad fs h.0 h.1 (sym (capture_of-IsFirstFault bytes h.0 h.1 h.2) ∙ e))
    ]

-- a fault that is answered is of the bytes
pub IsFaultOf-Fails : (bytes : List ℕ) (e : CaptureFault) → IsBytes bytes → Fails e (capture_of bytes) → IsFaultOf bytes e
IsFaultOf-Fails bytes Memory fits h = tt
IsFaultOf-Fails bytes (Bad at why) fits h =
    elim (file_or_fault bytes fits) [
      | inl file ↦ absurd (ok_or_bad file.0 at why (sym h ∙ capture_of-IsFile bytes file.0 file.1))
      | inr first ↦ subst (IsFaultOf bytes) (fault_is (Bad first.0 first.1) (Bad at why) (sym (capture_of-IsFirstFault bytes first.0 first.1 first.2) ∙ h)) first.2
    ]

pub IsFaultOf-Err : (bytes : List ℕ) (e : CaptureFault) → IsBytes bytes → capture_of bytes ≡ Err e → IsFaultOf bytes e
IsFaultOf-Err bytes Memory fits h = tt
IsFaultOf-Err bytes (Bad at why) fits h = IsFaultOf-Fails bytes (Bad at why) fits h

-- frames that a file holds fit in records
pub Fits-AreRecords : (form : Form) (fs : List Frame) (bytes rest : List ℕ) → AreRecords form fs bytes rest → AllByRecursion Fits fs
Fits-AreRecords form [] bytes rest is = tt
Fits-AreRecords form (f ∷ fs) bytes rest is = (is.1.fit, Fits-AreRecords form fs is.0 rest is.2)

pub Fits-IsFile : (bytes : List ℕ) (fs : List Frame) → IsFile bytes fs → AllByRecursion Fits fs
Fits-IsFile bytes fs file = Fits-AreRecords file.form fs (drop 24 bytes) [] file.records

pub IsShort-Fits : (fs : List Frame) → AllByRecursion Fits fs → AllByRecursion IsShort fs
IsShort-Fits [] fit = tt
IsShort-Fits (f ∷ fs) fit = (fit.0.bytes, IsShort-Fits fs fit.1)

pub IsShort-IsFile : (bytes : List ℕ) (fs : List Frame) → IsFile bytes fs → AllByRecursion IsShort fs
IsShort-IsFile bytes fs file = IsShort-Fits fs (Fits-IsFile bytes fs file)

-- each record takes 16 bytes at least
pub length-IsFile : (bytes : List ℕ) (fs : List Frame) → IsFile bytes fs → 24 + 16 * length fs ≤ length bytes
length-IsFile bytes fs file = omega (arith, file.header.long, length-drop 24 bytes, length-AreRecords file.form fs (drop 24 bytes) [] file.records)
