-- The wire: the written capture of the frames whose fate it is, in the order of their lines.
use Rattle.std.specs.Prelude.{◌≡◌, ℕ, Bool, true, false, cond, List, [], option_to_list}
use Rattle.std.specs.List.{flat_map}
use Rattle.ifl_base.specs.declared.fate.Fate.{Fate}
use Rattle.ifl_base.specs.declared.fate.Fate.TheVariants as fate
use Rattle.ifl_pcap.specs.declared.frame.Frame.{Frame}
use Rattle.ifl_pcap.specs.File.{written}
use Rattle.ifl_check.specs.declared.line.Line.{Line}
use Rattle.ifl_check.specs.Files.{frame_at}

abbrev pub is_wire : Fate → Bool
is_wire fate.Wire = true
is_wire fate.TooManySegments = false
is_wire fate.Reset = false
is_wire fate.Flush = false

-- the frame of a line whose fate is the wire
abbrev pub on_wire : List (List Frame) → Line Fate → List Frame
on_wire files l = cond (is_wire l.what) (option_to_list (frame_at files l.sender l.index)) []

-- the frames on the wire, in the order of their lines
abbrev pub wire_frames : List (List Frame) → List (Line Fate) → List Frame
wire_frames files accepted = flat_map (on_wire files) accepted

abbrev pub IsWire : List (List Frame) → List (Line Fate) → List ℕ → Type 0
IsWire files accepted wire = wire ≡ written (wire_frames files accepted)
