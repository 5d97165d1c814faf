use Rattle.ifl_pool.specs.Passes.{IsPass, OnlySaw}
use Rattle.ifl_pool.specs.Word.{IsSameSeat}
use Rattle.ifl_pool.proofs.word.Word.give_one.Given as goal

abbrev pub invariant-loop : goal.invariant-loop
invariant-loop g l = IsSameSeat l.initial.seat l.seat × IsPass l.seat.me.0.size l.seat.me.0.known × OnlySaw l.initial.seat.me.0.known l.seat.me.0.known
