use Rattle.std.proofs.Common.{rules, ℕ, sym, ◌∙◌, ◌≡◌, ap}
use Rattle.ifl_base.specs.declared.word.RingWord.{RingWord}
use Rattle.ifl_base.specs.Word.{pack}
use Rattle.ifl_base.specs.declared.word.Flag.TheVariants.{Busy}
use Rattle.ifl_base.specs.Space.{advanced}
use Rattle.ifl_ring.proofs.Parting.{goes_on, park_sized, may_sized}
use Rattle.ifl_ring.proofs.Bridge.{go_on_ok, go_on_err}
use Rattle.ifl_ring.proofs.bare.BareRing.go_on.Goals as goal

pub compare_exchange_with-found-requires : goal.compare_exchange_with-found-requires
compare_exchange_with-found-requires g c = let r = c.args.self.now.range in let k : c.args.self.now.table.shared.key.size ≡ c.args.self.now.size = c.args.self.now.keyed in let w : RingWord = c.args.w.now in
    let p = park_sized g.D.Item.RingItem.meaning g.D.Drainer.origin g.D.Drainer.settled g.D.Drainer.full g.D.Drainer.stands_for _ _ c.args.n c.args.seat.now.me (sym k) c.requires.parked.0 in (
      c.requires.table,
      search rules,
      goes_on g.D.Item.RingItem.meaning g.D.Drainer.origin g.D.Drainer.settled g.D.Drainer.full g.D.Drainer.stands_for _ _ _ _ _ _ c.args.n p w (may_sized _ _ Busy c.args.n c.requires.parked.0.consumer w (sym k) c.requires.parked.1) (rw k r.1) (rw k c.requires.word.0) c.requires.word.1 c.pack-old.ensures
          (c.pack.ensures ∙ ap (λ (z : ℕ). pack record w { cidx = z }) (c.advance.ensures ∙ ap (λ (z : ℕ). advanced z w.cidx c.args.n) (sym k))),
    )

pub returns-then-found-old-clause-ok : goal.returns-then-found-old-clause-ok
returns-then-found-old-clause-ok g c = go_on_ok g.D.Item.RingItem.meaning g.D.Drainer.origin g.D.Drainer.settled g.D.Drainer.full g.D.Drainer.stands_for c.args.self.now.table.shared.table_id.slots c.args.self.now.size c.pack-old.result c.pack.result c.compare_exchange_with-found.result (pack c.args.w.now) c.args.n c.args.seat.now.me c.compare_exchange_with-found.new.seat.me c.args.self.now.sized.1 c.pack-old.ensures c.if-found-old.true c.compare_exchange_with-found.ensures.2

pub returns-clause-err : goal.returns-clause-err
returns-clause-err g c = go_on_err g.D.Item.RingItem.meaning g.D.Drainer.origin g.D.Drainer.settled g.D.Drainer.full g.D.Drainer.stands_for c.args.self.now.table.shared.table_id.slots c.args.self.now.size c.pack-old.result c.pack.result c.compare_exchange_with-found.result c.args.n c.args.seat.now.me c.compare_exchange_with-found.new.seat.me c.args.self.now.sized.1 c.if-found-old.false c.compare_exchange_with-found.ensures.2
