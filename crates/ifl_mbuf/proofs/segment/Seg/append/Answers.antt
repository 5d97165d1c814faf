use Rattle.std.proofs.Common.{arith, sym, ap, subst, ◌∙◌, ◌≡◌, ◌+◌, ◌≤◌, ◌++◌, length}
use Rattle.ifl_mbuf.specs.Segment.{Segment}
use Rattle.ifl_mbuf.specs.Layout.{segment_of, Fits}
use Rattle.ifl_mbuf.proofs.Segments.{absorbed, len_is}
use Rattle.ifl_mbuf.proofs.segment.Seg.append.Goals as goal

pub returns : goal.returns
returns c =
    let n = c.deref_mut.result.now.body in let is = c.deref_mut.ensures.value in
    let m = length c.args.more.now in let written = c.copy_from_slice.new.self in let after = c.copy_from_slice.ensures.after in
    let fits : Fits n = subst (λ x. Fits x.body) (sym is) c.self.invariant in
    let seg : segment_of n ≡ c.args.self.now = ap (λ x. segment_of x.body) is ∙ c.self.view_is in
    let len = len_is n fits in let bytes = ap (λ (x : Segment). length x.bytes) seg in let off = ap (λ (x : Segment). x.off) seg in
    let asked = c.requires in let within : n.off + n.len + m ≤ 2048 = let f = fits.0 in omega arith in
    ap (λ bs. record { number = n.number; off = n.off; bytes = bs }) (absorbed n m _ written (ap length after) (omega arith) within fits.1)
    ∙ (λ i. record { number = (seg i).number; off = (seg i).off; bytes = (seg i).bytes ++ after i })
