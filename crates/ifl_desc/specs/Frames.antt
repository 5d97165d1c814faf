-- Whole frames: how many entries a frame has, where it ends, and what the device leaves of it.
use Rattle.std.specs.Prelude.{◌≡◌, ℕ, suc, ◌<◌, List, [], ◌∷◌, ◌++◌, true, false, cond}
use Rattle.ifl_base.specs.declared.ticket.Stamp.{Stamp}
use Rattle.ifl_desc.specs.declared.desc.Status.{Status}
use Rattle.ifl_desc.specs.declared.desc.Status.TheVariants.{Posted, Emitted, Aborted, Flushed, Filled, Unused}
use Rattle.ifl_desc.specs.declared.desc.Desc.{Desc}
use Rattle.ifl_desc.specs.declared.history.Side.TheVariants.{Driver, Device}
use Rattle.ifl_desc.specs.declared.history.Event.{Event}
use Rattle.ifl_desc.specs.declared.history.Event.TheVariants.{Sent, Looked, Cleared}

-- how many entries stand behind the last marked one, where n stood there before ds
abbrev pub open_after : ℕ → List Desc → ℕ
open_after n [] = n
open_after n (d ∷ ds) = open_after (cond d.last 0 (suc n)) ds

-- no frame of ds has more than 64 entries, where n of the first one stood before
abbrev pub IsShort : ℕ → List Desc → Type 0
IsShort n [] = Unit {0}
IsShort n (d ∷ ds) = (n < 64) × IsShort (cond d.last 0 (suc n)) ds

-- whole frames, as they are posted
abbrev pub IsWhole : List Desc → Type 0
IsWhole ds = IsShort 0 ds × (open_after 0 ds ≡ 0)

-- how many entries stand up to and with the first marked one
abbrev pub frame_size : List Desc → ℕ
frame_size [] = 0
frame_size (d ∷ ds) = suc (cond d.last 0 (frame_size ds))

-- the entries behind a marked one, up to and with the next marked one, where p stood before ds
abbrev pub frames_from : List Desc → List Desc → List (List Desc)
frames_from p [] = []
frames_from p (d ∷ ds) = cond d.last ((p ++ d ∷ []) ∷ frames_from [] ds) (frames_from (p ++ d ∷ []) ds)

-- the frames of a list
abbrev pub frames_of : List Desc → List (List Desc)
frames_of ds = frames_from [] ds

-- the bytes of a frame: those of its entries, joined
abbrev pub bytes_of : List Desc → List ℕ
bytes_of [] = []
bytes_of (d ∷ ds) = d.seg.bytes ++ bytes_of ds

-- the stamp of a frame: that of its first entry
abbrev pub stamp_of : List Desc → Stamp
stamp_of [] = record { sec = 0; usec = 0; orig = 0 }
stamp_of (d ∷ ds) = d.stamp

-- the last entry alone is marked
abbrev pub IsWholeFrame : List Desc → Type 0
IsWholeFrame [] = ⊥
IsWholeFrame (d ∷ []) = d.last ≡ true
IsWholeFrame (d ∷ (x ∷ ds)) = (d.last ≡ false) × IsWholeFrame (x ∷ ds)

-- the same but for the status
pub record AreAlike (p d : Desc) : Type 0 where
  pub seg : d.seg ≡ p.seg
  pub ticket : d.ticket ≡ p.ticket
  pub stamp : d.stamp ≡ p.stamp
  pub last : d.last ≡ p.last

-- each of the entries ds is the one at its place in ps, but for the status
abbrev pub AreReturnsOf : List Desc → List Desc → Type 0
AreReturnsOf ps [] = Unit {0}
AreReturnsOf [] (d ∷ ds) = ⊥
AreReturnsOf (p ∷ ps) (d ∷ ds) = AreAlike p d × AreReturnsOf ps ds

-- the device has said what became of it
abbrev pub IsSettled : Status → Type 0
IsSettled Posted = ⊥
IsSettled Emitted = Unit {0}
IsSettled Aborted = Unit {0}
IsSettled Flushed = Unit {0}
IsSettled Filled = Unit {0}
IsSettled Unused = Unit {0}

-- the beginning of a frame, as it is completed: no entry is marked
abbrev pub IsBegun : List Desc → Type 0
IsBegun [] = Unit {0}
IsBegun (d ∷ ds) = (d.last ≡ false) × IsSettled d.status × IsBegun ds

-- one frame, as it is completed: the last entry alone is marked
abbrev pub IsFrame : List Desc → Type 0
IsFrame [] = ⊥
IsFrame (d ∷ []) = (d.last ≡ true) × IsSettled d.status
IsFrame (d ∷ (x ∷ ds)) = (d.last ≡ false) × IsSettled d.status × IsFrame (x ∷ ds)

-- the driver sends whole frames, and the device one at a time
abbrev pub IsFine : Event → Type 0
IsFine (Sent Driver ds) = IsWhole ds
IsFine (Sent Device ds) = IsFrame ds
IsFine (Looked b n) = Unit {0}
IsFine (Cleared n) = Unit {0}

-- each step of a history is fine
abbrev pub AllFine : List Event → Type 0
AllFine [] = Unit {0}
AllFine (e ∷ h) = IsFine e × AllFine h
