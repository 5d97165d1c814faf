use Rattle.std.proofs.Common.{arith, sym, ap, subst, ◌+◌, ◌≤◌, length}
use Rattle.ifl_mbuf.specs.Layout.{HoldChain}
use Rattle.ifl_mbuf.specs.Layout.{segment_of}
use Rattle.std.proofs.lemmas.List.{length-map}
use Rattle.ifl_mbuf.proofs.Segments.{len_max, HoldChain-append}
use Rattle.ifl_mbuf.proofs.chain.Chain.cat.Goals as goal

pub overflow_add-self : goal.overflow_add-self
overflow_add-self c =
    let mine = len_max c.self.inside.nodes c.self.inside.len c.self.invariant in let others = len_max c.other.inside.nodes c.other.inside.len c.other.invariant in
    record { fits = omega arith }

pub invariant_of-self : goal.invariant_of-self
invariant_of-self c =
    let mine = c.self.inside.nodes in let others = c.other.inside.nodes in
    let m = ap length c.self.view_is in let o = ap length c.other.view_is in let r = c.requires in
    let short : length mine + length others ≤ 64 = omega (arith, length-map mine segment_of, length-map others segment_of) in
    subst (λ bs. HoldChain bs (c.self.inside.len + c.other.inside.len)) (sym c.append.ensures) (HoldChain-append mine others _ _ c.self.invariant c.other.invariant short)
