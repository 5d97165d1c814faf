use Rattle.ifl_ring.proofs.Owned.{lies_for, drainer_lies, drainer_away}
use Rattle.ifl_ring.proofs.laws.slots_lie_with_their_owners.Goals as goal

pub returns-clause-slots : goal.returns-clause-slots
returns-clause-slots g c = λ key s l place o is. lies_for g.D.Item.RingItem.meaning g.D.Drainer.origin g.D.Drainer.settled g.D.Drainer.full g.D.Drainer.stands_for key s l place o is

pub returns-clause-rests : goal.returns-clause-rests
returns-clause-rests g c = λ key s l none_. drainer_lies g.D.Item.RingItem.meaning g.D.Drainer.origin g.D.Drainer.settled g.D.Drainer.full g.D.Drainer.stands_for key s l none_

pub returns-clause-away : goal.returns-clause-away
returns-clause-away g c = λ key s l d some_. drainer_away g.D.Item.RingItem.meaning g.D.Drainer.origin g.D.Drainer.settled g.D.Drainer.full g.D.Drainer.stands_for key s l d some_
