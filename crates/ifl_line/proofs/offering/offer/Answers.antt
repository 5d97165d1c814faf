use Rattle.std.proofs.Common.{ℕ, subst, sym, map}
use Rattle.std.specs.Prelude.{Option}
use Rattle.ifl_base.specs.declared.word.RingWord.{RingWord}
use Rattle.ifl_ring.specs.Calls.{IsEnqueued}
use Rattle.ifl_txq.specs.Items.{meaning_of}
use Rattle.ifl_line.specs.Steps.{IsOffered}
use Rattle.ifl_line.proofs.Stepping.{offered, went_stepped}
use Rattle.ifl_line.proofs.offering.offer.Goals as goal

pub returns-clause-offered : goal.returns-clause-offered
returns-clause-offered g c = let a = c.enqueue.ensures.answer in (
  a.0,
  went_stepped _ _ _ _ a.1,
  subst (λ (z : Option RingWord). IsOffered c.args.ring.now.size c.args.budget c.args.abdicate (map meaning_of c.args.items.now.items) z a.0) (sym c.refusal.ensures)
      (offered _ _ _ _ _ _ (subst (λ (z : ℕ). IsEnqueued c.args.ring.now.size c.args.budget c.args.abdicate z (map meaning_of c.args.items.now.items) c.enqueue.result a.0) c.requires.one a.2)),
)
