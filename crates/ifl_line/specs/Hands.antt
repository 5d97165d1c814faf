-- What a thread has of a line.
use Rattle.std.specs.Prelude.{◌≡◌, ◌-◌, ◌/◌, false, []}
use Rattle.ifl_pool.specs.History.{no_counts}
use Rattle.ifl_pool.specs.Passes.{IsPass}
use Rattle.ifl_ring.specs.Seats.{events}
use Rattle.ifl_line.specs.declared.hands.Hands.{Hands}
use Rattle.ifl_line.specs.declared.hands.Seats.{Seats}
use Rattle.ifl_line.specs.declared.line.Line.{Line}

-- the seats are of the line's ring and of its turnstile, whose turn they do not have
pub record AreSeats {R A B C : Type 0} (line : Line R A B C) (seats : Seats R A B C) : Type 0 where
  pub ring_is : seats.ring.table ≡ line.ring.table
  pub turn_is : seats.turn.turnstile ≡ line.turnstile
  pub free : seats.turn.held ≡ false

-- so are these, and their pass is of the line's pool
pub record AreOf {R A B C : Type 0} (line : Line R A B C) (hands : Hands R A B C) : Type 0 where
  pub seats : AreSeats line hands.seats
  pub pass_is : hands.pass.pool ≡ line.pool.now
  pub lawful : IsPass line.pool.now.size hands.pass.known

-- nothing was published or taken with them
pub record AreFresh {R A B C : Type 0} (hands : Hands R A B C) : Type 0 where
  pub silent : events hands.seats.ring.known ≡ []
  pub none : hands.pass.known.counts ≡ no_counts

-- their parts are as they were
pub record KeepParts {R A B C : Type 0} (old new : Hands R A B C) : Type 0 where
  pub ring_part : new.seats.ring.known.part ≡ old.seats.ring.known.part
  pub turn_part : new.seats.turn.part ≡ old.seats.turn.part
  pub pass_part : new.pass.known.part ≡ old.pass.known.part

-- the parts of seats were cut in two, the smaller half rounded down
pub record AreSeatHalves {R A B C : Type 0} (old left new : Seats R A B C) : Type 0 where
  pub left_ring : left.ring.known.part ≡ old.ring.known.part - old.ring.known.part / 2
  pub left_turn : left.turn.part ≡ old.turn.part - old.turn.part / 2
  pub new_ring : new.ring.known.part ≡ old.ring.known.part / 2
  pub new_turn : new.turn.part ≡ old.turn.part / 2

-- so were those of hands
pub record AreHalves {R A B C : Type 0} (old left new : Hands R A B C) : Type 0 where
  pub seats : AreSeatHalves old.seats left.seats new.seats
  pub left_pass : left.pass.known.part ≡ old.pass.known.part - old.pass.known.part / 2
  pub new_pass : new.pass.known.part ≡ old.pass.known.part / 2
