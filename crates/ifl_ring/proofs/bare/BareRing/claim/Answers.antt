use Rattle.std.proofs.Common.{arith, refl, [], ◌∷◌, ◌++◌, ◌∙◌, ap, sym, List, append_assoc}
use Rattle.ifl_base.specs.Word.{pack}
use Rattle.ifl_ringcore.specs.Counters.{nothing_counted}
use Rattle.ifl_ringcore.specs.declared.history.Entry.{Entry}
use Rattle.ifl_ringcore.specs.declared.history.Step.TheVariants.{Reserve}
use Rattle.ifl_ring.specs.Calls.{publishes}
use Rattle.ifl_ring.specs.Seats.{entry}
use Rattle.ifl_ring.proofs.Claiming.{has_places, publishing-last}
use Rattle.ifl_ring.proofs.Rests.{looked_word, rests_after_look}
use Rattle.ifl_ring.proofs.Trails.{looks-append, lived, lived-made, trail-after, trail-first_look, trail-look, trail-looks, trail-made, trail-none}
use Rattle.ifl_ring.proofs.bare.BareRing.claim.Goals as goal

pub loop-init : goal.loop-init
loop-init g c = let look = c.look-seen.ensures.look.0 in (refl, refl, c.look-seen.ensures.rest, c.look-seen.ensures.within, c.look-seen.ensures.look.1, ([], tt, trail-none _ _ (lived-made _ _ _ _ c.requires.rest.0.named look)))

pub look_for_quiet-quiet-requires-clause-lived : goal.look_for_quiet-quiet-requires-clause-lived
look_for_quiet-quiet-requires-clause-lived g c κs within = lived _ _ _ _ _ c.loop.invariant.5.2

pub find_room-requires-clause-lived : goal.find_room-requires-clause-lived
find_room-requires-clause-lived g c κs within = lived _ _ _ _ _ c.look_for_quiet-quiet.ensures.trail.2

pub returns-in-Err-clause-err : goal.returns-in-Err-clause-err
returns-in-Err-clause-err g c = let q = trail-first_look _ _ _ _ c.requires.rest.0.named c.look-seen.ensures.look.0 in let i = trail-looks _ _ _ _ c.loop.invariant.5 c.look_for_quiet-quiet.ensures.trail in let r = c.in-Err.ensures.err in let e : Entry = r.1.0 in (
  c.find_room.ensures.rest,
  r.0,
  (
    q.0 ++ (i.0 ++ e ∷ []),
    publishing-last q.0 i.0 e q.1 i.1 (ap publishes r.1.1.0),
    (q.0 ++ i.0, e, sym (append_assoc q.0 i.0 (e ∷ [])), looks-append q.0 i.0 q.1 i.1, r.1.1),
    trail-after _ c.args.seat.now.me.0.known _ _ q.0 (i.0 ++ e ∷ []) _ q.2 (trail-after _ _ _ _ i.0 (e ∷ []) _ i.2 r.1.2),
  ),
  r.2,
)

pub returns-in-Ok-reserve-clause-ok : goal.returns-in-Ok-reserve-clause-ok
returns-in-Ok-reserve-clause-ok g c = let q = trail-first_look _ _ _ _ c.requires.rest.0.named c.look-seen.ensures.look.0 in let i = trail-looks _ _ _ _ c.loop.invariant.5 c.look_for_quiet-quiet.ensures.trail in let o = c.in-Ok.ensures.ok in let r = c.in-Ok-reserve.ensures.ok in let range = c.args.self.now.range in
    let v = c.find_room.new.seat.me.0.known in let e : Entry = entry v.number (pack c.in-Ok.roomy) (Reserve c.args.n) in
    let p = has_places c.args.self.now.size c.args.n c.in-Ok.roomy c.find_room.new.seat.me c.reserve.new.seat.me (omega arith) range.1 o.0 c.find_room.ensures.rest.0.named c.reserve.ensures.same.2.0 r.0 r.1 in
    let fs : List Entry = i.0 ++ o.3.0 in (
      o.0.0,
      p.0,
      p.1,
      (
        q.0 ++ (fs ++ e ∷ []),
        (q.0 ++ fs, e, sym (append_assoc q.0 fs (e ∷ [])), looks-append q.0 fs q.1 (looks-append i.0 o.3.0 i.1 o.3.1), refl),
        trail-after _ c.args.seat.now.me.0.known _ _ q.0 (fs ++ e ∷ []) _ q.2
            (trail-after _ _ _ _ fs (e ∷ []) nothing_counted (trail-after _ _ _ _ i.0 o.3.0 nothing_counted i.2 o.3.2) (trail-made _ v e _ c.find_room.ensures.rest.0.named r.0.made)),
      ),
    )

pub loop-preserved : goal.loop-preserved
loop-preserved g c = let i = c.loop.invariant in let j = trail-looks _ _ _ _ i.5 c.look_for_quiet-quiet.ensures.trail in let h = c.look_for_quiet-quiet.ensures.same in let o = c.in-Ok.ensures.ok in let e = c.in-Err-reserve.ensures.err in let fs = j.0 ++ o.3.0 in
    let s = c.find_room.ensures.same in let t = c.reserve.ensures.same in (
      t.0 ∙ (s.0 ∙ (h.0 ∙ i.0)),
      t.1 ∙ (s.1 ∙ (h.1 ∙ i.1)),
      (rests_after_look _ _ _ _ c.find_room.ensures.rest.0 e.0, t.2.0, e.1),
      c.read-seen.ensures.within,
      (looked_word c.args.self.now.size _ _ _ c.read-seen.result (omega arith) c.args.self.now.range.1 c.read-seen.ensures.within c.read-seen.ensures.packs e.0).1,
      trail-look _ _ _ _ fs _ (looks-append j.0 o.3.0 j.1 o.3.1) (trail-after _ _ _ _ j.0 o.3.0 nothing_counted j.2 o.3.2) c.find_room.ensures.rest.0.named e.0.0,
    )
