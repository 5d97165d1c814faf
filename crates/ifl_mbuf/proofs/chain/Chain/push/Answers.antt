use Rattle.std.proofs.Common.{arith, sym, ap, subst, ◌+◌, ◌<◌, ◌≤◌, length}
use Rattle.std.proofs.lemmas.List.{length-map}
use Rattle.ifl_mbuf.specs.Segment.{Segment}
use Rattle.ifl_mbuf.specs.Layout.{segment_of, HoldChain}
use Rattle.ifl_mbuf.proofs.Segments.{len_is, len_max, HoldChain-append, HoldChain-single}
use Rattle.ifl_mbuf.proofs.chain.Chain.push.Goals as goal

pub overflow_add-self : goal.overflow_add-self
overflow_add-self c =
    let mine = len_max c.self.inside.nodes c.self.inside.len c.self.invariant in
    let e = ap (λ n. n.body.len) c.deref.ensures in let within = c.seg.invariant.0 in record { fits = omega arith }

pub invariant_of-self : goal.invariant_of-self
invariant_of-self c =
    let b = c.seg.inside.node.value.body in let mine = c.self.inside.nodes in
    let some : 0 < b.len = let len = len_is b c.seg.invariant in let seen = ap (λ (s : Segment). length s.bytes) c.seg.view_is in let r = c.requires.some in omega arith in
    let m = ap length c.self.view_is in let r = c.requires.room in let short : length mine + 1 ≤ 64 = omega (arith, length-map mine segment_of) in
    subst (λ n. HoldChain c.push.new.self (c.self.inside.len + n.body.len)) (sym c.deref.ensures)
    (subst (λ bs. HoldChain bs (c.self.inside.len + b.len)) (sym c.push.ensures)
    (HoldChain-append mine _ _ _ c.self.invariant (HoldChain-single b (c.seg.invariant, some)) short))
