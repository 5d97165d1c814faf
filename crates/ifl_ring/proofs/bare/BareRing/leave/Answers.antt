use Rattle.std.proofs.Common.{rules, ℕ, sym, ◌∙◌, ◌≡◌, ap}
use Rattle.ifl_base.specs.declared.word.RingWord.{RingWord}
use Rattle.ifl_base.specs.Word.{pack}
use Rattle.ifl_base.specs.Space.{advanced}
use Rattle.ifl_ring.proofs.Parting.{leaves, park_sized, may_sized}
use Rattle.ifl_ring.proofs.Bridge.{leave_ok, leave_err}
use Rattle.ifl_ring.proofs.bare.BareRing.leave.Goals as goal

pub compare_exchange_with-found-requires : goal.compare_exchange_with-found-requires
compare_exchange_with-found-requires g c = let r = c.args.self.now.range in let k : c.args.self.now.table.shared.key.size ≡ c.args.self.now.size = c.args.self.now.keyed in let w : RingWord = c.args.w.now in
    let p = park_sized g.D.Item.RingItem.meaning g.D.Drainer.origin g.D.Drainer.settled g.D.Drainer.full g.D.Drainer.stands_for _ _ c.args.n c.args.seat.now.me (sym k) c.requires.parked.0 in (
      c.requires.table,
      search rules,
      leaves g.D.Item.RingItem.meaning g.D.Drainer.origin g.D.Drainer.settled g.D.Drainer.full g.D.Drainer.stands_for _ _ _ _ _ _ c.args.n c.args.flag p w c.requires.word.1 (may_sized _ _ c.args.flag c.args.n c.requires.parked.0.consumer w (sym k) c.requires.parked.1) c.requires.parked.2 (rw k r.1) (rw k c.requires.word.0) c.pack-old.ensures
          (c.pack.ensures ∙ ap (λ (z : ℕ). pack record w { cidx = z; flag = c.args.flag }) (c.advance.ensures ∙ ap (λ (z : ℕ). advanced z w.cidx c.args.n) (sym k))),
    )

pub returns-then-found-old-clause-ok : goal.returns-then-found-old-clause-ok
returns-then-found-old-clause-ok g c = leave_ok c.args.self.now.table.shared.table_id.slots c.args.self.now.size c.pack-old.result c.pack.result c.compare_exchange_with-found.result (pack c.args.w.now) c.args.n c.args.flag c.args.seat.now.me c.compare_exchange_with-found.new.seat.me c.args.self.now.sized.1 c.pack-old.ensures c.if-found-old.true c.compare_exchange_with-found.ensures.2

pub returns-clause-err : goal.returns-clause-err
returns-clause-err g c = leave_err c.args.self.now.table.shared.table_id.slots c.args.self.now.size c.pack-old.result c.pack.result c.compare_exchange_with-found.result c.args.n c.args.flag c.args.seat.now.me c.compare_exchange_with-found.new.seat.me c.args.self.now.sized.1 c.if-found-old.false c.compare_exchange_with-found.ensures.2
