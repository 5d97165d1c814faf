use Rattle.std.proofs.Common.{◌≡◌, ℕ, List, ◌++◌, ap, sym, ◌∙◌, subst, arith}
use Rattle.std.specs.Prelude.{IsPermutation}
use Rattle.ifl_mbuf.specs.Segment.{Segment, bytes_of, numbers_of}
use Rattle.ifl_txq.proofs.Chains.{freed_count, rest_count, freed_twice, more_segments}
use Rattle.ifl_txq.proofs.posting.compact.Goals as goal
use Rattle.ifl_txq.proofs.posting.compact.Goals.{then-max-segments, else-max-segments}

pub cat-requires : goal.cat-requires
cat-requires c =
    let n = freed_count c.collapse-freed.result c.collapse-freed.new.self c.args.chain.now c.collapse-freed.ensures.clusters in
    let m = rest_count c.defrag.result c.defrag.new.self c.collapse-freed.new.self c.defrag.ensures.clusters in
    let k = c.segments-at_most_64.ensures.kept.short in omega arith

pub returns-clause-clusters : goal.returns-clause-clusters
returns-clause-clusters c = elim c.if-max-segments.branch [
  | then-max-segments w ↦ subst (λ (z : List ℕ × List Segment). IsPermutation (z.0 ++ numbers_of z.1) (numbers_of c.args.chain.now)) (λ i. (sym (w.freed-is ∙ w.cat.ensures) i, sym w.chain-is i))
      (freed_twice c.collapse-freed.result w.defrag.result (numbers_of w.defrag.new.self) (numbers_of c.collapse-freed.new.self) (numbers_of c.args.chain.now) w.defrag.ensures.clusters c.collapse-freed.ensures.clusters)
  | else-max-segments w ↦ subst (λ (z : List ℕ × List Segment). IsPermutation (z.0 ++ numbers_of z.1) (numbers_of c.args.chain.now)) (λ i. (sym w.freed-is i, sym w.chain-is i)) c.collapse-freed.ensures.clusters
]

pub returns-clause-many : goal.returns-clause-many
returns-clause-many c =
    let same : bytes_of c.if-max-segments.chain ≡ bytes_of c.args.chain.now = elim c.if-max-segments.branch [
      | then-max-segments w ↦ ap bytes_of w.chain-is ∙ w.defrag.ensures.bytes ∙ c.collapse-freed.ensures.bytes
      | else-max-segments w ↦ ap bytes_of w.chain-is ∙ c.collapse-freed.ensures.bytes
    ] in
    more_segments c.args.max c.if-max-segments.chain c.args.chain.now c.segments-kept.ensures.kept.filled same
