use Rattle.std.proofs.Common.{arith, refl, [], ◌∷◌, ℕ, ◌<◌, ◌≤◌, subst}
use Rattle.ifl_base.specs.Space.{space}
use Rattle.ifl_base.specs.Word.{pack}
use Rattle.ifl_ringcore.specs.declared.history.Step.TheVariants.{Look, Refuse}
use Rattle.ifl_ring.specs.Seats.{entry}
use Rattle.ifl_ring.proofs.Trails.{trail-made, trail-none}
use Rattle.ifl_ring.proofs.bare.BareRing.find_room.Goals as goal

pub returns-then-n-space-clause-ok : goal.returns-then-n-space-clause-ok
returns-then-n-space-clause-ok g c = (c.requires.within, subst (λ (z : ℕ). c.args.n < z) c.space.ensures c.if-n-space.true, c.requires.shown, ([], tt, trail-none _ _ c.requires.lived))

pub returns-then-n-space-2-clause-ok : goal.returns-then-n-space-2-clause-ok
returns-then-n-space-2-clause-ok g c = let v = c.args.seat.now.me.0.known in let room = subst (λ (z : ℕ). c.args.n < z) c.space-2.ensures c.if-n-space-2.true in
    (c.refuse-found.ensures.within, room, c.refuse-found.ensures.shown, (entry v.number (pack c.refuse-found.result) Look ∷ [], (refl, tt), trail-made _ v _ _ c.requires.rest.0.named (c.refuse-found.ensures.looked room)))

pub returns-else-n-space-2-clause-err : goal.returns-else-n-space-2-clause-err
returns-else-n-space-2-clause-err g c = let v = c.args.seat.now.me.0.known in let s = c.space-2.ensures in let not = c.if-n-space-2.false in
    let full : space c.args.self.now.size c.refuse-found.result ≤ c.args.n = omega arith in
    (full, (entry v.number (pack c.refuse-found.result) (Refuse c.args.n), (refl, refl), trail-made _ v _ _ c.requires.rest.0.named (c.refuse-found.ensures.refused full)), c.refuse-found.ensures.within)
