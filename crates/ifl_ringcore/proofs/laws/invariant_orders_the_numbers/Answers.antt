use Rattle.std.proofs.Common.{◌≤◌, arith}
use Rattle.ifl_ringcore.proofs.Queueing.{busy-consumer}
use Rattle.ifl_ringcore.proofs.Reservations.{cover_le}
use Rattle.ifl_ringcore.proofs.laws.invariant_orders_the_numbers.Goals as goal

pub returns-clause-order : goal.returns-clause-order
returns-clause-order c = λ size st g. let a : st.released ≤ st.published = g.released in let b = cover_le st.published st.reservations st.reserved g.covered in let w = g.within in (a, b, omega arith)

pub returns-clause-busy : goal.returns-clause-busy
returns-clause-busy c = λ size st g. let t = busy-consumer st st.consumer g.tended in (t.0, t.1)
