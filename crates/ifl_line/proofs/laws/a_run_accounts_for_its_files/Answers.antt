use Rattle.ifl_line.proofs.Naming.{account}
use Rattle.ifl_line.proofs.laws.a_run_accounts_for_its_files.Goals as goal

pub returns : goal.returns
returns c = λ size r files turned es n short sent. account size r files turned es n short sent
