use Rattle.std.proofs.Common.{sym, arith}
use Rattle.std.proofs.lemmas.Option.{get_or_from_slice_get}
use Rattle.ifl_rxq.proofs.Finishing.{records_more}
use Rattle.ifl_rxq.proofs.run.records_len.Goals as goal

pub loop-index-preserved : goal.loop-index-preserved
loop-index-preserved c = let fs = c.args.input.now.frames in let f = c.frame.result in let i = c.loop-index.invariant in let r = c.record_len-record.ensures in let e = c.in-Some.ensures in
    let m = records_more fs c.loop-index.index f (omega arith) (sym (get_or_from_slice_get fs c.loop-index.index f f c.frame.ensures)) in omega arith
