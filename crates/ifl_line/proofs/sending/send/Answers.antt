use Rattle.std.proofs.Common.{◌∙◌, [], List, refl, arith, subst, sym, ap, length}
use Rattle.std.proofs.lemmas.Option.{get_or_from_slice_get}
use Rattle.ifl_line.specs.declared.away_line.AwayLine.{AwayLine}
use Rattle.ifl_line.specs.Sent.{Handled}
use Rattle.ifl_line.proofs.Joining.{handled_none}
use Rattle.ifl_line.proofs.Fitting.{next_frame}
use Rattle.ifl_line.proofs.sending.send.Goals as goal

pub loop-index-init : goal.loop-index-init
loop-index-init g c = let none = ap length c.requires.ready.none in let ok = c.args.sender.now.away.ok in (
  c.requires.own,
  refl,
  subst (λ (z : List AwayLine). Handled c.args.line.now.ring.size c.args.line.now.rules c.args.sender.now.number 0 [] c.args.hands.now.seats.ring.known c.args.hands.now.pass.known [] c.args.hands.now.seats.ring.known c.args.hands.now.pass.known z) (sym c.requires.ready.none) (handled_none _ _ _ _ _ _ _),
  refl,
  omega arith,
  refl,
  c.requires.ready.empty,
  c.requires.ready.one,
)

pub loop-index-preserved : goal.loop-index-preserved
loop-index-preserved g c = let i = c.loop-index.invariant in let had = i.4 in let more = c.send_frame.ensures.more in (
  c.send_frame.ensures.own,
  c.send_frame.ensures.part ∙ i.1,
  next_frame _ _ _ _ _ c.args.capture.now.frames _ _ _ _ _ _ _ _ _ _ (omega arith) (sym (get_or_from_slice_get c.args.capture.now.frames c.loop-index.index c.frame-frame.result c.frame-frame.result c.frame-frame.ensures)) i.3 i.2 c.send_frame.ensures.handled,
  c.send_frame.ensures.number ∙ i.3,
  omega arith,
  c.send_frame.ensures.room ∙ i.5,
  c.send_frame.ensures.ready.0,
  c.send_frame.ensures.ready.1,
)
