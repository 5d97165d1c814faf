-- A capture as a file and a table: where each frame's record lies in the file.
use Rattle.std.specs.Prelude.{◌≤◌, ◌+◌, ◌&&◌, ℕ, Bool, leb, List, length, take, drop, map}
use Rattle.ifl_pcap.specs.declared.form.Form.{Form}
use Rattle.ifl_pcap.specs.declared.frame.Frame.{Frame}
use Rattle.ifl_pcap.specs.declared.table.Place.{Place}
use Rattle.ifl_pcap.specs.Reading.{stamp_at}

-- the frame of the record at the front, which has so many bytes
abbrev pub front_frame : Form → ℕ → List ℕ → Frame
front_frame form len bytes = record { stamp = stamp_at form bytes; bytes = take len (drop 16 bytes) }

-- the frame of the record at a place
unfoldable pub frame_in : Form → List ℕ → Place → Frame
frame_in form bytes p = front_frame form p.len (drop p.at bytes)

-- the frames of the records at these places, in order
abbrev pub frames_in : Form → List ℕ → List Place → List Frame
frames_in form bytes places = map (frame_in form bytes) places

-- the whole record at a place is there
abbrev pub LiesIn : List ℕ → Place → Type 0
LiesIn bytes p = p.at + 16 + p.len ≤ length bytes

-- a number is so much, at least and at most
abbrev pub is_within : ℕ → ℕ → ℕ → Bool
is_within least most n = leb least n && leb n most

-- a frame has so many bytes, at least and at most
unfoldable pub has_length : ℕ → ℕ → Frame → Bool
has_length least most f = is_within least most (length f.bytes)
