use Rattle.std.proofs.Common.{◌∷◌, ◌++◌, [], map, refl, subst, List}
use Rattle.ifl_base.specs.declared.word.RingWord.{RingWord}
use Rattle.ifl_ringcore.specs.Counters.{nothing_counted, plus}
use Rattle.ifl_ringcore.specs.declared.counters.Counters.{Counters}
use Rattle.ifl_ringcore.specs.declared.history.Meaning.{Meaning}
use Rattle.ifl_ring.specs.Acts.{items_in}
use Rattle.ifl_ring.specs.Publishing.{IsPublished, published_rise}
use Rattle.ifl_ring.specs.Tally.{drain_rise}
use Rattle.ifl_ring.specs.declared.published.Published.{Published}
use Rattle.ifl_ring.specs.declared.published.Published.TheVariants.{Elected}
use Rattle.ifl_ring.proofs.Rising.{rises-plus}
use Rattle.ifl_ring.proofs.Trails.{trail-after, trail-more}
use Rattle.ifl_ring.proofs.bare.BareRing.deliver.Goals as goal

pub returns-in-Behind-clause-went : goal.returns-in-Behind-clause-went
returns-in-Behind-clause-went g c = let P = c.publish_at_turn-how.ensures.published in let xs : List Meaning = map g.D.Item.RingItem.meaning (items_in c.args.seat.now.me.1) in
    let q = subst (λ (z : Published). IsPublished c.args.self.now.size c.args.budget c.args.n c.args.abdicate xs c.publish_at_turn-how.result.1 P.1 z c.publish_at_turn-how.new.seat.me.0.known) c.in-Behind.is P.4 in (
      P.0 ++ q.entry ∷ [],
      record nothing_counted { enqueues = c.args.n },
      (q.asked, (P.0, q.entry, refl, P.2, q.finds.0)),
      trail-after _ _ _ _ P.0 (q.entry ∷ []) _ P.3 q.trail,
      c.count_published.ensures,
    )

pub returns-in-Abdicated-clause-went : goal.returns-in-Abdicated-clause-went
returns-in-Abdicated-clause-went g c = let P = c.publish_at_turn-how.ensures.published in let xs : List Meaning = map g.D.Item.RingItem.meaning (items_in c.args.seat.now.me.1) in
    let q = subst (λ (z : Published). IsPublished c.args.self.now.size c.args.budget c.args.n c.args.abdicate xs c.publish_at_turn-how.result.1 P.1 z c.publish_at_turn-how.new.seat.me.0.known) c.in-Abdicated.is P.4 in (
      P.0 ++ q.entry ∷ [],
      record nothing_counted { enqueues = c.args.n },
      (q.asked, (P.0, q.entry, refl, P.2, q.finds.0)),
      trail-after _ _ _ _ P.0 (q.entry ∷ []) _ P.3 q.trail,
      c.count_published-in-Abdicated.ensures,
    )

pub returns-in-Elected-clause-went : goal.returns-in-Elected-clause-went
returns-in-Elected-clause-went g c = let P = c.publish_at_turn-how.ensures.published in let xs : List Meaning = map g.D.Item.RingItem.meaning (items_in c.args.seat.now.me.1) in let w : RingWord = c.publish_at_turn-how.result.1 in
    let q = subst (λ (z : Published). IsPublished c.args.self.now.size c.args.budget c.args.n c.args.abdicate xs w P.1 z c.publish_at_turn-how.new.seat.me.0.known) c.in-Elected.is P.4 in
    let d = c.drain-left.ensures.trail in let up : Counters = published_rise c.args.n w.flag (Elected c.in-Elected.items) in let down : Counters = drain_rise w.flag c.drain-left.result.0 c.drain-left.result.1 in (
      P.0 ++ q.entry ∷ d.0,
      plus up down,
      (q.asked, d.0, (P.0, q.entry, refl, P.2, q.finds.0), d.1),
      trail-after _ _ _ _ P.0 (q.entry ∷ d.0) _ P.3 (trail-more _ _ _ _ (q.entry ∷ []) d.0 up down q.trail d.2),
      rises-plus up down _ _ _ c.count_elected.ensures c.count_drained.ensures,
    )
