use Rattle.std.proofs.Common.{◌-◌, ap, ◌∙◌}
use Rattle.ifl_mbuf.specs.Segment.{bytes_of, size}
use Rattle.ifl_mbuf.specs.Trim.{only_first}
use Rattle.ifl_mbuf.proofs.Trims.{bytes_of-only_first}
use Rattle.ifl_mbuf.proofs.chain.Chain.adjust_back.Goals as goal

pub returns-clause-bytes : goal.returns-clause-bytes
returns-clause-bytes c =
    let old = c.args.self.now in
    ap bytes_of c.keep_first-rest.ensures.kept ∙ (ap (λ k. bytes_of (only_first (k - c.args.n) old)) c.len.ensures ∙ bytes_of-only_first (size old - c.args.n) old)
