use Rattle.std.proofs.Common.{◌≡◌, ap, ◌∙◌, arith}
use Rattle.std.proofs.lemmas.Grind.{common_steps}
use Rattle.ifl_mbuf.specs.Segment.{bytes_of}
use Rattle.ifl_mbuf.specs.Trim.{without_first}
use Rattle.ifl_mbuf.proofs.Trims.{bytes_of-without_first}
use Rattle.ifl_mbuf.proofs.chain.Chain.adjust_front.Goals as goal

pub returns-then-left-len-clause-bytes : goal.returns-then-left-len-clause-bytes
returns-then-left-len-clause-bytes c =
    let kept : c.push_front.new.self ≡ without_first c.args.n c.args.self.now = grind (arith, common_steps) in
    ap bytes_of kept ∙ bytes_of-without_first c.args.n c.args.self.now

pub returns-in_default-clause-bytes : goal.returns-in_default-clause-bytes
returns-in_default-clause-bytes c =
    let kept : c.pop_front.new.self ≡ without_first c.args.n c.args.self.now = grind (arith, common_steps) in
    ap bytes_of kept ∙ bytes_of-without_first c.args.n c.args.self.now
