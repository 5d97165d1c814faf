use Rattle.std.proofs.Common.{◌≡◌, ℕ}
use Rattle.ifl_base.specs.declared.fate.Away.{Away}
use Rattle.ifl_base.specs.declared.fate.Away.TheVariants as away
use Rattle.ifl_pcap.specs.declared.frame.Frame.{Frame}
use Rattle.ifl_line.specs.declared.rules.Policy.{Policy}
use Rattle.ifl_line.specs.declared.rules.Policy.TheVariants.{Drop, Retry}
use Rattle.ifl_line.specs.declared.rules.Rules.{Rules}
use Rattle.ifl_line.specs.Frames.{IsByLength, MayTurn}
use Rattle.ifl_line.proofs.Naming.{account}
use Rattle.ifl_line.proofs.laws.retry_turns_away_by_length_alone.Goals as goal

not_both : (p : Policy) → p ≡ Drop → p ≡ Retry → ⊥
not_both p d r = cc

by_length : (size : ℕ) (r : Rules) (f : Frame) (why : Away) → r.policy ≡ Retry → MayTurn size r f why → IsByLength why
by_length size r f away.Runt retry may = tt
by_length size r f away.Oversize retry may = tt
by_length size r f away.NoClusters retry may = not_both r.policy may.1 retry
by_length size r f (away.NoBuffers w) retry may = not_both r.policy may.1 retry

pub returns : goal.returns
returns c = λ size r files turned es n short retry sent k d lt. (let named = (account size r files turned es n short sent).turned_away k d lt in by_length size r named.0 _ retry named.2)
