use Rattle.std.proofs.Common.{rules, sym, ◌∙◌, ◌≡◌}
use Rattle.ifl_base.specs.declared.word.RingWord.{RingWord}
use Rattle.ifl_base.specs.Word.{pack}
use Rattle.ifl_ring.proofs.TakingOver.{takes_over}
use Rattle.ifl_ring.proofs.Bridge.{over_ok, over_err}
use Rattle.ifl_ring.proofs.bare.BareRing.take_over.Goals as goal

pub compare_exchange_with-found-requires : goal.compare_exchange_with-found-requires
compare_exchange_with-found-requires g c = let r = c.args.self.now.range in let k : c.args.self.now.table.shared.key.size ≡ c.args.self.now.size = c.args.self.now.keyed in let w : RingWord = c.args.w.now in (
  c.requires.table,
  search rules,
  takes_over g.D.Item.RingItem.meaning g.D.Drainer.origin g.D.Drainer.settled g.D.Drainer.full g.D.Drainer.stands_for _ _ _ _ _ _ c.args.budget w c.requires.rest.1 c.requires.rest.0 c.requires.rest.2 (rw k r.1) (rw k c.requires.word.0) c.pack-old.ensures c.requires.word.1 c.requires.word.2 c.pack.ensures,
)

pub returns-then-found-old-clause-ok : goal.returns-then-found-old-clause-ok
returns-then-found-old-clause-ok g c = over_ok g.D.Item.RingItem.meaning g.D.Drainer.origin g.D.Drainer.settled g.D.Drainer.full g.D.Drainer.stands_for c.args.self.now.table.shared.table_id.slots c.args.self.now.size c.pack-old.result c.pack.result c.compare_exchange_with-found.result (pack c.args.w.now) c.args.budget c.args.seat.now.me c.compare_exchange_with-found.new.seat.me c.args.self.now.sized.1 c.pack-old.ensures c.if-found-old.true c.compare_exchange_with-found.ensures.2

pub returns-clause-err : goal.returns-clause-err
returns-clause-err g c = let t = over_err g.D.Item.RingItem.meaning g.D.Drainer.origin g.D.Drainer.settled g.D.Drainer.full g.D.Drainer.stands_for c.args.self.now.table.shared.table_id.slots c.args.self.now.size c.pack-old.result c.pack.result c.compare_exchange_with-found.result c.args.budget c.args.seat.now.me c.compare_exchange_with-found.new.seat.me c.args.self.now.sized.1 c.if-found-old.false c.compare_exchange_with-found.ensures.2 in
    (t.0, t.1, t.2, λ e. c.if-found-old.false (e ∙ sym c.pack-old.ensures))
