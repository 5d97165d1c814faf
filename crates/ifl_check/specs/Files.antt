-- The records of the captures' files, each named by its file and its place there, both counted from 0.
use Rattle.std.specs.Prelude.{ℕ, ◌<◌, List, [], length, map, Option, slice_get, slice_index_or}
use Rattle.ifl_pcap.specs.declared.capture.Capture.{Capture}
use Rattle.ifl_pcap.specs.declared.frame.Frame.{Frame}

-- the frames of each capture
abbrev pub each_frames : List Capture → List (List Frame)
each_frames captures = map (λ c. c.frames) captures

-- the frames of a file; there are none where there is no such file
abbrev pub frames_at : List (List Frame) → ℕ → List Frame
frames_at files s = slice_index_or files s []

-- the frame of a record, where there is one
abbrev pub frame_at : List (List Frame) → ℕ → ℕ → Option Frame
frame_at files s k = slice_get (frames_at files s) k

-- a sender and a number name a record
abbrev pub IsRecordAt : List (List Frame) → ℕ → ℕ → Type 0
IsRecordAt files s k = k < length (frames_at files s)
