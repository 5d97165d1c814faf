-- What is seen of a frame and of a capture, wherever their bytes lie.
use Rattle.std.specs.Prelude.{ℕ, List}
use Rattle.ifl_base.specs.declared.ticket.Stamp.{Stamp}

-- a frame is its stamp and its bytes
pub record FrameSeen : Type 0 where
  pub stamp : Stamp
  pub bytes : List ℕ

-- a capture is its frames, in order
pub record CaptureSeen : Type 0 where
  pub frames : List FrameSeen
