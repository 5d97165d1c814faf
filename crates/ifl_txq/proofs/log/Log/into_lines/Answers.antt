use Rattle.std.proofs.Common.{ap, sym, ◌∙◌, subst, arith, map, length, None}
use Rattle.ifl_txq.specs.Log.{LogSees, AreTold, kept}
use Rattle.ifl_txq.proofs.Tables.{filled_all, told_at, kept_next}
use Rattle.ifl_txq.proofs.log.Log.into_lines.Goals as goal

pub loop-line-init : goal.loop-line-init
loop-line-init c =
    let k = c.self.invariant in let n = filled_all c.self.inside.places.items in let m = k.as_many in let a = k.all in let r = k.room_fits in let e = ap length c.deref-line-items.ensures.value in
    (ap (map kept) k.empty, (omega arith))

pub told-requires : goal.told-requires
told-requires c = told_at c.deref-line-items.result.now c.loop-line.line-index (record { ticket = record { sender = 0; index = 0 }; fate = None }) (subst AreTold (sym (c.deref-line-items.ensures.value ∙ ap (λ (z : LogSees). z.lines) c.self.view_is)) c.requires) c.loop-line-test.true

pub loop-line-preserved : goal.loop-line-preserved
loop-line-preserved c = let i = c.loop-line.invariant in let r = i.1 in let e = c.push_reserved.ensures.capacity in (
  ap (map kept) c.push_reserved.ensures.items ∙ kept_next c.loop-line.room.items c.told.result c.deref-line-items.result.now c.loop-line.line-index (record { ticket = record { sender = 0; index = 0 }; fate = None }) i.0 c.loop-line-test.true c.told.ensures,
  (omega arith),
)
