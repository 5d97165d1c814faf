use Rattle.std.proofs.Common.{arith, sym, ap, subst, ◌+◌, ◌≤◌, length}
use Rattle.std.proofs.lemmas.List.{length-map}
use Rattle.ifl_mbuf.specs.Layout.{HoldFreed}
use Rattle.ifl_mbuf.proofs.Segments.{HoldFreed-append}
use Rattle.ifl_mbuf.proofs.freed.Freed.cat.Goals as goal

pub invariant_of-self : goal.invariant_of-self
invariant_of-self c =
    let mine = c.self.inside.nodes in let others = c.other.inside.nodes in
    let m = ap length c.self.view_is in let o = ap length c.other.view_is in let r = c.requires in
    let short : length mine + length others ≤ 64 = omega (arith, length-map mine (λ b. b.number), length-map others (λ b. b.number)) in
    subst HoldFreed (sym c.append.ensures) (HoldFreed-append mine others c.self.invariant c.other.invariant short)
