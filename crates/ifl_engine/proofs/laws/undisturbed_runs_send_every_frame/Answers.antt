use Rattle.ifl_engine.proofs.Undisturbed.{all_sent}
use Rattle.ifl_engine.proofs.laws.undisturbed_runs_send_every_frame.Goals as goal

pub returns : goal.returns
returns c = λ set captures r good retry drain calm. all_sent set captures r good retry drain calm
