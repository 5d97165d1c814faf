-- The frames of a list of descriptors, how they are returned, and the records that they are on the wire.
use Rattle.std.specs.Prelude.{◌≡◌, ℕ, ◌+◌, List, [], ◌∷◌, Bool, length, map, true, false, cond}
use Rattle.ifl_pcap.specs.declared.frame.Frame.{Frame}
use Rattle.ifl_desc.specs.declared.desc.Status.{Status}
use Rattle.ifl_desc.specs.declared.desc.Status.TheVariants.{Posted, Emitted, Aborted, Flushed, Filled, Unused}
use Rattle.ifl_desc.specs.declared.desc.Desc.{Desc}
use Rattle.ifl_desc.specs.Frames.{bytes_of, stamp_of}

-- the frame as a capture has it
abbrev pub captured : List Desc → Frame
captured ds = record { stamp = stamp_of ds; bytes = bytes_of ds }

-- the length of its record
abbrev pub record_size : List Desc → ℕ
record_size ds = 16 + length (bytes_of ds)

-- an entry as it is returned with this status
abbrev pub returned_as : Status → Desc → Desc
returned_as s d = record d { status = s }

-- an entry as it was posted, whatever became of it
abbrev pub as_posted : Desc → Desc
as_posted d = returned_as Posted d

-- what became of a frame: the status of its first entry
abbrev pub status_of : List Desc → Status
status_of [] = Posted
status_of (d ∷ ds) = d.status

-- what may become of a frame that is to be transmitted
abbrev pub IsOutcome : Status → Type 0
IsOutcome Posted = ⊥
IsOutcome Emitted = Unit {0}
IsOutcome Aborted = Unit {0}
IsOutcome Flushed = Unit {0}
IsOutcome Filled = ⊥
IsOutcome Unused = ⊥

-- a frame as it is returned: all its entries have one status
abbrev pub IsReturned : List Desc → Type 0
IsReturned ds = IsOutcome (status_of ds) × (map (returned_as (status_of ds)) ds ≡ ds)

-- each of these frames is returned so
abbrev pub AreReturned : List (List Desc) → Type 0
AreReturned [] = Unit {0}
AreReturned (f ∷ fs) = IsReturned f × AreReturned fs

abbrev pub is_emitted : Status → Bool
is_emitted Posted = false
is_emitted Emitted = true
is_emitted Aborted = false
is_emitted Flushed = false
is_emitted Filled = false
is_emitted Unused = false

-- those frames that were emitted
abbrev pub emitted_among : List (List Desc) → List (List Desc)
emitted_among [] = []
emitted_among (f ∷ fs) = cond (is_emitted (status_of f)) (f ∷ emitted_among fs) (emitted_among fs)

-- what of these, which got this status, is on the wire: all, or nothing
abbrev pub on_wire : {X : Type 0} → Status → List X → List X
on_wire s xs = cond (is_emitted s) xs []
