use Rattle.ifl_line.proofs.Concluding.{items_published, packets_in-published, weight_in-published}
use Rattle.ifl_line.proofs.laws.a_ring_records_what_was_published.Goals as goal

pub returns-clause-items : goal.returns-clause-items
returns-clause-items c = λ es. items_published es

pub returns-clause-packets : goal.returns-clause-packets
returns-clause-packets c = λ es. packets_in-published es

pub returns-clause-weight : goal.returns-clause-weight
returns-clause-weight c = λ es. weight_in-published es
