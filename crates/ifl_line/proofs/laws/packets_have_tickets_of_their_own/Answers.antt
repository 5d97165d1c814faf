use Rattle.ifl_line.proofs.Ordering.{own_tickets}
use Rattle.ifl_line.proofs.laws.packets_have_tickets_of_their_own.Goals as goal

pub returns : goal.returns
returns c = λ size r files turned es n short sent. own_tickets size r files turned es n short sent
