use Rattle.ifl_line.proofs.Completing.{sent_whole}
use Rattle.ifl_line.proofs.laws.an_undisturbed_run_sends_every_frame.Goals as goal

pub returns : goal.returns
returns c = λ size max descriptors r plan files order away es retry calm goes_on lawful long follows. sent_whole size max descriptors r plan files order away es retry calm goes_on lawful long follows
