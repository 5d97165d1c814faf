-- The frames of a list of descriptors, and what they say.
use Rattle.std.specs.Prelude.{List, [], ◌∷◌, ◌++◌, ℕ, cond}
use Rattle.ifl_desc.specs.declared.desc.Status.{Status}
use Rattle.ifl_desc.specs.declared.desc.Status.TheVariants.{Posted, Emitted, Aborted, Flushed, Filled, Unused}
use Rattle.ifl_desc.specs.declared.desc.Desc.{Desc}
use Rattle.ifl_base.specs.declared.fate.Fate.{Fate}
use Rattle.ifl_base.specs.declared.fate.Fate.TheVariants as fate

-- the bytes of a frame: those of its entries, joined
abbrev pub joined : List Desc → List ℕ
joined [] = []
joined (d ∷ ds) = d.seg.bytes ++ joined ds

-- the fate that a status gives
abbrev pub fate_of : Status → Fate
fate_of Posted = fate.Reset
fate_of Emitted = fate.Wire
fate_of Aborted = fate.Reset
fate_of Flushed = fate.Flush
fate_of Filled = fate.Reset
fate_of Unused = fate.Reset

-- the fates of the frames of a list: each goes by the status of the frame's last entry
abbrev pub fates_of : List Desc → List Fate
fates_of [] = []
fates_of (d ∷ ds) = cond d.last (fate_of d.status ∷ fates_of ds) (fates_of ds)
