use Rattle.std.proofs.Common.{ℕ, ◌<◌, length, ap, ◌∙◌, arith, eqb}
use Rattle.ifl_txq.proofs.Chains.{posting_new, posting_more, posting_short, posting_room, posting_done, last_by_count}
use Rattle.ifl_txq.proofs.posting.post_chain.Goals as goal

pub loop-seg-init : goal.loop-seg-init
loop-seg-init g c = posting_new (g.R.DriverSide.driver_sees c.args.driver.now) c.args.ticket c.args.stamp c.args.chain c.requires.lawful

pub post-requires-clause-short : goal.post-requires-clause-short
post-requires-clause-short g c =
    let l = ap length c.in-Some.ensures.0 in let more : 0 < length c.loop-seg.chain = omega arith in
    posting_short (g.R.DriverSide.driver_sees c.args.driver.now) (g.R.DriverSide.driver_sees c.loop-seg.driver) c.args.ticket c.args.stamp c.args.chain c.loop-seg.chain c.loop-seg.count c.loop-seg.invariant c.requires.whole c.segments-at_most_64.ensures.kept.short more

pub post-requires-clause-room : goal.post-requires-clause-room
post-requires-clause-room g c =
    let l = ap length c.in-Some.ensures.0 in let more : 0 < length c.loop-seg.chain = omega arith in
    posting_room (g.R.DriverSide.driver_sees c.args.driver.now) (g.R.DriverSide.driver_sees c.loop-seg.driver) c.args.ticket c.args.stamp c.args.chain c.loop-seg.chain c.loop-seg.count c.loop-seg.invariant c.requires.room more

pub loop-seg-preserved : goal.loop-seg-preserved
loop-seg-preserved g c =
    posting_more (g.R.DriverSide.driver_sees c.args.driver.now) (g.R.DriverSide.driver_sees c.loop-seg.driver) c.args.ticket c.args.stamp c.args.chain c.loop-seg.chain c.loop-seg.count c.loop-seg.invariant
    c.in-Some.seg c.pop_front.new.self _ _ (g.R.DriverSide.driver_sees c.post.new.end) c.in-Some.ensures.0
    (ap (λ (z : ℕ). eqb z 0) c.segments-last.ensures.value ∙ last_by_count c.pop_front.new.self) c.post.ensures.list c.post.ensures.lawful

pub returns-clause-posted : goal.returns-clause-posted
returns-clause-posted g c =
    posting_done (g.R.DriverSide.driver_sees c.args.driver.now) (g.R.DriverSide.driver_sees c.loop-seg.driver) c.args.ticket c.args.stamp c.args.chain c.loop-seg.chain c.loop-seg.count c.loop-seg.invariant c.in_default.ensures.0
