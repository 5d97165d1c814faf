use Rattle.std.proofs.Common.{arith, sym, ap, subst, ◌+◌, ◌≤◌, length}
use Rattle.std.proofs.lemmas.List.{length-map}
use Rattle.ifl_mbuf.specs.Layout.{HoldFreed}
use Rattle.ifl_mbuf.proofs.Segments.{HoldFreed-append}
use Rattle.ifl_mbuf.proofs.freed.Freed.push.Goals as goal

pub invariant_of-self : goal.invariant_of-self
invariant_of-self c =
    let mine = c.self.inside.nodes in let m = ap length c.self.view_is in let r = c.requires in
    let short : length mine + 1 ≤ 64 = omega (arith, length-map mine (λ b. b.number)) in
    subst HoldFreed (sym c.push.ensures) (HoldFreed-append mine _ c.self.invariant (record { short = omega arith; whole = (c.cluster.invariant, tt) }) short)
