use Rattle.std.proofs.Common.{rules, ℕ, sym, ◌∙◌, ◌≡◌, ap}
use Rattle.std.specs.Prelude.{Some, None}
use Rattle.ifl_base.specs.declared.word.RingWord.{RingWord}
use Rattle.ifl_base.specs.declared.word.Flag.TheVariants.{Busy}
use Rattle.ifl_base.specs.Word.{pack}
use Rattle.ifl_ringcore.specs.State.{reservation}
use Rattle.ifl_base.specs.Space.{advanced}
use Rattle.ifl_ring.proofs.Electing.{elects}
use Rattle.ifl_ring.proofs.Bridge.{elect_ok, elect_err}
use Rattle.ifl_ring.proofs.bare.BareRing.publish_elected.Goals as goal

pub compare_exchange_with-found-requires : goal.compare_exchange_with-found-requires
compare_exchange_with-found-requires g c = let r = c.args.self.now.range in let k : c.args.self.now.table.shared.key.size ≡ c.args.self.now.size = c.args.self.now.keyed in let w : RingWord = c.args.w.now in
    let h = c.requires.turn.0 in (
      c.requires.table,
      search rules,
      elects g.D.Item.RingItem.meaning g.D.Drainer.origin g.D.Drainer.settled g.D.Drainer.full g.D.Drainer.stands_for _ _ _ _ _ _ h.place c.args.budget h.items w h.still h.named (h.role ∙ ap (λ (z : ℕ). (Some (reservation c.args.seat.now.me.0.known.number h.place z), None)) (sym h.count)) (rw k h.lies) (rw k r.1) (rw k c.requires.word.0) c.pack-old.ensures (rw k c.requires.turn.1) c.requires.word.1
          (c.pack.ensures ∙ ap (λ (z : ℕ). pack record w { tail = z; flag = Busy }) (c.advance.ensures ∙ (λ i. advanced (sym k i) w.tail (sym h.count i)))),
    )

pub returns-then-found-old-clause-ok : goal.returns-then-found-old-clause-ok
returns-then-found-old-clause-ok g c = elect_ok g.D.Item.RingItem.meaning g.D.Drainer.origin g.D.Drainer.settled g.D.Drainer.full g.D.Drainer.stands_for c.args.self.now.table.shared.table_id.slots c.args.self.now.size c.pack-old.result c.pack.result c.compare_exchange_with-found.result (pack c.args.w.now) c.args.budget c.args.seat.now.me c.compare_exchange_with-found.new.seat.me c.args.self.now.sized.1 c.pack-old.ensures c.if-found-old.true c.compare_exchange_with-found.ensures.2

pub returns-clause-err : goal.returns-clause-err
returns-clause-err g c = elect_err g.D.Item.RingItem.meaning g.D.Drainer.origin g.D.Drainer.settled g.D.Drainer.full g.D.Drainer.stands_for c.args.self.now.table.shared.table_id.slots c.args.self.now.size c.pack-old.result c.pack.result c.compare_exchange_with-found.result c.args.budget c.args.seat.now.me c.compare_exchange_with-found.new.seat.me c.args.self.now.sized.1 c.if-found-old.false c.compare_exchange_with-found.ensures.2
