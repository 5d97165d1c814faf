use Rattle.std.proofs.Common.{arith, ap, ◌∙◌, ◌≤◌, length}
use Rattle.ifl_mbuf.specs.Segment.{Segment}
use Rattle.ifl_mbuf.specs.Trim.{behind}
use Rattle.ifl_mbuf.proofs.Segments.{cut_is, len_is}
use Rattle.ifl_mbuf.proofs.segment.Seg.cut_front.Goals as goal

pub returns : goal.returns
returns c =
    let b = c.self.inside.node.value.body in let e = c.deref_mut.ensures.value in
    let le : c.args.n ≤ b.len = let h = len_is b c.self.invariant in let k = ap (λ (x : Segment). length x.bytes) c.self.view_is in let r = c.requires in omega arith in
    rw e (cut_is b c.args.n le ∙ ap (behind c.args.n) c.self.view_is)
