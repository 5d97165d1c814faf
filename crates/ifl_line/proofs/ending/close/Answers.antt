use Rattle.std.proofs.Common.{◌∙◌, List, sym, subst}
use Rattle.ifl_ringcore.specs.declared.history.Entry.{Entry}
use Rattle.ifl_ringcore.specs.declared.history.Meaning.{Meaning}
use Rattle.ifl_txq.specs.Items.{meaning_of}
use Rattle.ifl_txq.specs.Standing.{QueueStandsFor}
use Rattle.ifl_line.proofs.Concluding.{all_among}
use Rattle.ifl_line.proofs.Resting.{none_mapped, rest_left, rest_released}
use Rattle.ifl_line.specs.Runs.{published}
use Rattle.ifl_line.proofs.ending.close.Goals as goal

pub returns-clause-left : goal.returns-clause-left
returns-clause-left g c = none_mapped meaning_of _ (c.close-ring.ensures.left ∙ rest_left _ c.args.hands.seats.ring.known.seen c.close-ring.ensures.ended.lawful c.requires.quiet)

pub returns-clause-history : goal.returns-clause-history
returns-clause-history g c = c.close-ring.ensures.ring.1 ∙ sym (all_among _ _ c.close-ring.ensures.all)

pub returns-clause-stands : goal.returns-clause-stands
returns-clause-stands g c = subst (λ (z : List Entry). QueueStandsFor c.empty_out.new.queue (published z)) (sym c.close-ring.ensures.ring.1)
    (c.empty_out.ensures.stands _ (subst (λ (z : List Meaning). QueueStandsFor c.close-ring.result.1 z) (rest_released _ c.args.hands.seats.ring.known.seen c.close-ring.ensures.ended.lawful c.requires.quiet) c.close-ring.ensures.drainer.stands))
