use Rattle.ifl_check.proofs.OneReading.{order-once}
use Rattle.ifl_check.proofs.laws.order_texts_have_one_reading.Goals as goal

pub returns-clause-accepted : goal.returns-clause-accepted
returns-clause-accepted c = λ text xs ys us vs small h g. (order-once text xs ys us vs small h g).0

pub returns-clause-away : goal.returns-clause-away
returns-clause-away c = λ text xs ys us vs small h g. (order-once text xs ys us vs small h g).1
