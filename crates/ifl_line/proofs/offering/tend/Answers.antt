use Rattle.std.proofs.Common.{◌++◌, subst}
use Rattle.ifl_ring.specs.Rings.{SeatState}
use Rattle.ifl_line.specs.Steps.{Stepped}
use Rattle.ifl_line.proofs.Stepping.{kicks-more, kicks-quiet, stepped_more, went_stepped}
use Rattle.ifl_line.proofs.offering.tend.Goals as goal

pub returns-clause-only : goal.returns-clause-only
returns-clause-only g c = let b = c.check_drainage.ensures.answer in let k = c.kick.ensures.only in (
  b.0 ++ k.0,
  subst (λ (z : SeatState). Stepped z.known (b.0 ++ k.0) c.kick.new.seat.known) c.attend-moved.ensures.ring (stepped_more _ _ _ b.0 k.0 (went_stepped _ _ _ _ b.1) k.1),
  kicks-more b.0 k.0 (kicks-quiet b.0 b.3) k.2,
)

pub returns-clause-own : goal.returns-clause-own
returns-clause-own g c = record { ring_is = c.kick.ensures.own; turn_is = c.attend-moved.ensures.own.turn_is; free = c.attend-moved.ensures.own.free }
