-- The frames of generated traffic.
use Rattle.std.specs.Prelude.{ℕ, ◌+◌, ◌*◌, ◌^◌, ◌/◌, ◌%◌, List, map}
use Rattle.std.specs.List.{range_with_len}
use Rattle.ifl_pcap.specs.declared.frame.Frame.{Frame}
use Rattle.ifl_gen.specs.declared.traffic.Traffic.{Traffic}
use Rattle.ifl_gen.specs.States.{after_steps, first_state}

-- how many bytes the frame of a number has: 60 to 1,514
unfoldable pub length_by : ℕ → ℕ
length_by x = 60 + (x / 2 ^ 33) % 1455

-- byte i of the frame of a number: byte i mod 8 of the number, and i
unfoldable pub byte_by : ℕ → ℕ → ℕ
byte_by x i = (x / 2 ^ (8 * (i % 8)) + i) % 256

-- the first bytes of the frame of a number
abbrev pub bytes_by : ℕ → ℕ → List ℕ
bytes_by x len = map (byte_by x) (range_with_len 0 len)

-- the frame of a number, which a sender has under an index: the stamp has the index as seconds, and the sender as microseconds
abbrev pub frame_by : ℕ → ℕ → ℕ → Frame
frame_by sender index x = record {
  stamp = record { sec = index; usec = sender; orig = length_by x };
  bytes = bytes_by x (length_by x);
}

-- the frame of an index: one step is made before each frame
unfoldable pub frame_of : ℕ → ℕ → ℕ → Frame
frame_of seed sender index = frame_by sender index (after_steps (index + 1) (first_state seed sender))

-- the frames of one sender
abbrev pub captured : Traffic → ℕ → List Frame
captured t sender = map (frame_of t.seed sender) (range_with_len 0 t.frames)

-- the captures of all senders
unfoldable pub generated : Traffic → List (List Frame)
generated t = map (captured t) (range_with_len 0 t.senders)
