use Rattle.std.proofs.Common.{◌≡◌, ◌+◌, ◌-◌, ◌<◌, ◌++◌, List, ℕ, length, map, sym, ap, ◌∙◌, arith, length-append}
use Rattle.std.specs.Prelude.{take, drop}
use Rattle.ifl_mbuf.specs.Layout.{segment_of}
use Rattle.ifl_mbuf.specs.Nodes.{bodies}
use Rattle.ifl_mbuf.specs.Segment.{bytes_of}
use Rattle.ifl_mbuf.proofs.Copies.{rest_of, rest_is, has_next, full_at, copied_more}
use Rattle.ifl_mbuf.proofs.run.Run.copy_to.Goals as goal

pub part-part-requires : goal.part-part-requires
part-part-requires c =
    let ns = c.args.self.now.nodes in let bs = bodies ns in let l = c.loop-done in let more = c.loop-done-test.true in
    let some : 0 < length (rest_of bs l.i) = let e = l.invariant.enough in omega arith in
    (full_at bs l.i c.node-node.result.now.body c.requires.full (has_next bs l.i some) c.node-node.ensures.0).0

pub overflow_add-i : goal.overflow_add-i
overflow_add-i c =
    let ns = c.args.self.now.nodes in let bs = bodies ns in let l = c.loop-done in let more = c.loop-done-test.true in
    let some : 0 < length (rest_of bs l.i) = let e = l.invariant.enough in omega arith in
    let next = has_next bs l.i some in let short = c.requires.short in record { fits = omega arith }

pub loop-done-preserved : goal.loop-done-preserved
loop-done-preserved c =
    let bs = bodies c.args.self.now.nodes in let l = c.loop-done in let more = c.loop-done-test.true in let enough = l.invariant.enough in
    let some : 0 < length (rest_of bs l.i) = omega arith in
    let b = c.node-node.result.now.body in let part : List ℕ = c.part-part.result.now in let rest : List ℕ = rest_of bs (l.i + 1) in
    let is : rest_of bs l.i ≡ part ++ rest = rest_is bs l.i b (has_next bs l.i some) c.node-node.ensures.0 ∙ ap (λ p. p ++ rest) (sym c.part-part.ensures) in
    let n = c.copy_part-done.result in let count = c.copy_part-done.ensures.count in let kept = c.copy_part-done.auto.out in
    let skipped = c.saturating_sub-skip.ensures in let lengths = ap length is in let parts = length-append part rest in
    let left : length l.out - l.done - n ≡ length c.copy_part-done.new.out - (l.done + n) = omega arith in
    let before = l.invariant.copied in
    let copied = copied_more (length l.out - l.done) l.done n l.skip l.out c.copy_part-done.new.out part rest _ count c.copy_part-done.ensures.bytes (ap (λ bytes. take l.done l.out ++ take (length l.out - l.done) (drop l.skip bytes)) (sym is) ∙ before) in
    record {
      there = c.node-node.ensures.1;
      within = omega arith;
      enough = omega arith;
      copied = sym (λ i. take (l.done + n) c.copy_part-done.new.out ++ take (left i) (drop (sym skipped i) rest)) ∙ (copied ∙ ap (λ k. take k (drop c.args.at (bytes_of (map segment_of bs)))) (sym kept));
    }
