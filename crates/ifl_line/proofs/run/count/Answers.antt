use Rattle.std.proofs.Common.{◌≡◌, ◌≤◌, length, get_or, ap, arith}
use Rattle.ifl_pcap.specs.declared.capture.Capture.{Capture}
use Rattle.ifl_line.proofs.Listing.{few_at, few_in}
use Rattle.ifl_line.proofs.run.count.Goals as goal

pub overflow_add-total : goal.overflow_add-total
overflow_add-total c = let i = c.loop-index.invariant in let all = few_in c.args.captures.now c.requires.few.1 in let few = c.requires.few.0 in let len = c.len-total.ensures in let x = c.index-captures-index.result in let k = c.loop-index.index in
    let one : length (get_or c.args.captures.now k x).frames ≤ 1000000 = few_at c.args.captures.now k x c.requires.few.1 c.loop-index-test.true in
    let is : length x.frames ≡ length (get_or c.args.captures.now k x).frames = ap (λ (z : Capture). length z.frames) c.index-captures-index.is in
    omega arith
