-- One sender with its hands, before and after it runs.
use Rattle.std.specs.Prelude.{◌≡◌, [], ◌∷◌}
use Rattle.ifl_ring.specs.Seats.{events}
use Rattle.ifl_line.specs.declared.line.Line.{Line}
use Rattle.ifl_line.specs.declared.running.Runner.{Runner}
use Rattle.ifl_line.specs.Hands.{AreOf, AreFresh, KeepParts}
use Rattle.ifl_line.specs.Ready.{IsReady}
use Rattle.ifl_line.specs.Sent.{IsSent}

-- it may start
pub record MayStart {R A B C : Type 0} (line : Line R A B C) (x : Runner R A B C) : Type 0 where
  pub of : AreOf line x.hands
  pub fresh : AreFresh x.hands
  pub ready : IsReady x.capture.frames x.sender

-- it has run, and is a part of the run
pub record HasRun {R A B C : Type 0} (line : Line R A B C) (old new : Runner R A B C) : Type 0 where
  pub capture : new.capture ≡ old.capture
  pub number : new.sender.number ≡ old.sender.number
  pub of : AreOf line new.hands
  pub parts : KeepParts old.hands new.hands
  pub sent : IsSent line.ring.size line.rules old.sender.number (old.capture.frames ∷ []) (new.sender.away.items ∷ []) (events new.hands.seats.ring.known) new.hands.pass.known.counts
