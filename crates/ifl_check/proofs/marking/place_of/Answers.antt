use Rattle.std.proofs.Common.{arith}
use Rattle.ifl_check.specs.Files.{each_frames, IsRecordAt}
use Rattle.ifl_check.proofs.Rows.{place-start}
use Rattle.ifl_check.proofs.marking.place_of.Goals as goal

pub overflow_add-result : goal.overflow_add-result
overflow_add-result c =
    let r : IsRecordAt (each_frames c.args.captures.now) c.args.sender c.args.index = (let a = c.records_at.ensures in let b = c.if-index-records_at.true in omega arith) in
    let t = place-start c.args.captures.now c.args.starts.now c.args.sender c.args.index c.requires.starts.1 r in let few = c.requires.few in let small = t.1 in omega arith

pub returns-then-index-records_at-clause-some : goal.returns-then-index-records_at-clause-some
returns-then-index-records_at-clause-some c =
    let r : IsRecordAt (each_frames c.args.captures.now) c.args.sender c.args.index = (let a = c.records_at.ensures in let b = c.if-index-records_at.true in omega arith) in
    ((place-start c.args.captures.now c.args.starts.now c.args.sender c.args.index c.requires.starts.1 r).0, r)

pub returns-then-index-records_at-clause-within : goal.returns-then-index-records_at-clause-within
returns-then-index-records_at-clause-within c =
    let r : IsRecordAt (each_frames c.args.captures.now) c.args.sender c.args.index = (let a = c.records_at.ensures in let b = c.if-index-records_at.true in omega arith) in
    (place-start c.args.captures.now c.args.starts.now c.args.sender c.args.index c.requires.starts.1 r).1
