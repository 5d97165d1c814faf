use Rattle.std.proofs.Common.{◌≡◌, ◌≢◌}
use Rattle.ifl_pool.specs.declared.history.Event.TheVariants.{Empty}
use Rattle.ifl_pool.specs.Passes.{IsPass, Did, OnlySaw}
use Rattle.ifl_pool.specs.Word.{IsSameSeat}
use Rattle.ifl_pool.proofs.word.Word.take_one.Given as goal

abbrev pub invariant-loop : goal.invariant-loop
invariant-loop g l = IsSameSeat l.initial.seat l.seat × IsPass l.seat.me.0.size l.seat.me.0.known × (l.found ≡ 0 → Did Empty l.fn.seat.me.0.known l.seat.me.0.known) × (l.found ≢ 0 → OnlySaw l.fn.seat.me.0.known l.seat.me.0.known)
