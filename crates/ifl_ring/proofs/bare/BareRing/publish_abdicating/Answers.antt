use Rattle.std.proofs.Common.{rules, ℕ, sym, ◌∙◌, ◌≡◌, ap}
use mathlib.Core.Option.{none}
use Rattle.ifl_base.specs.declared.word.RingWord.{RingWord}
use Rattle.std.specs.Prelude.{Some, None}
use Rattle.ifl_base.specs.Word.{pack}
use Rattle.ifl_ringcore.specs.State.{reservation}
use Rattle.ifl_base.specs.Space.{advanced}
use Rattle.ifl_ring.proofs.Abdicating.{abdicates}
use Rattle.ifl_ring.proofs.Bridge.{abdicate_ok}
use Rattle.ifl_ring.proofs.bare.BareRing.publish_abdicating.Goals as goal

pub compare_exchange-found-requires : goal.compare_exchange-found-requires
compare_exchange-found-requires g c = let r = c.args.self.now.range in let k : c.args.self.now.table.shared.key.size ≡ c.args.self.now.size = c.args.self.now.keyed in let w : RingWord = c.args.w.now in
    let h = c.requires.turn.0 in (
      c.requires.table,
      search rules,
      abdicates g.D.Item.RingItem.meaning g.D.Drainer.origin g.D.Drainer.settled g.D.Drainer.full g.D.Drainer.stands_for _ _ _ _ _ _ h.place h.items w none h.still h.named (h.role ∙ ap (λ (z : ℕ). (Some (reservation c.args.seat.now.me.0.known.number h.place z), None)) (sym h.count)) (rw k h.lies) (rw k r.1) (rw k c.requires.word) c.pack-old.ensures (rw k c.requires.turn.1) (c.pack.ensures ∙ (λ i. pack record w { tail = (c.advance.ensures ∙ (λ j. advanced (sym k j) w.tail (sym h.count j))) i; flag = c.risen.ensures i })),
    )

pub returns-then-found-old-clause-ok : goal.returns-then-found-old-clause-ok
returns-then-found-old-clause-ok g c = abdicate_ok g.D.Item.RingItem.meaning c.args.self.now.table.shared.table_id.slots c.args.self.now.size c.pack-old.result c.pack.result c.compare_exchange-found.result (pack c.args.w.now) c.args.seat.now.me c.compare_exchange-found.new.seat.me c.args.self.now.sized.1 c.pack-old.ensures c.if-found-old.true c.compare_exchange-found.ensures.2
