use Rattle.std.proofs.Common.{◌∙◌, [], refl}
use Rattle.ifl_ring.proofs.Trails.{trail-look, trail-none}
use Rattle.ifl_ring.proofs.bare.BareRing.look_for_quiet.Goals as goal

pub loop-init : goal.loop-init
loop-init g c = (refl, refl, c.requires.rest, c.requires.within, c.requires.shown, ([], tt, trail-none _ _ c.requires.lived))

pub loop-preserved : goal.loop-preserved
loop-preserved g c = let i = c.loop.invariant in let s = c.look-seen.ensures.same in let look = c.look-seen.ensures.look in
    (s.0 ∙ i.0, s.1 ∙ i.1, c.look-seen.ensures.rest, c.look-seen.ensures.within, look.1, trail-look _ _ _ _ _ _ i.5.1 i.5.2 i.2.0.named look.0)
