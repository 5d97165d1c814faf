use contract.BorrowLft.{⊑_static}
use Rattle.std.proofs.Common.{length, ap, arith}
use Rattle.ifl_line.proofs.Loading.{length-loaded}
use Rattle.ifl_line.proofs.run.run_line.Goals as goal

pub drop-job_room-requires-lives-T-Destruct-3 : goal.drop-job_room-requires-lives-T-Destruct-3
drop-job_room-requires-lives-T-Destruct-3 g c κs within = λ a m. ⊑_static _ a (c.type_bounds.static-R a m)

pub drop-job_room-requires-in_err-line-lives-T-Destruct-3 : goal.drop-job_room-requires-in_err-line-lives-T-Destruct-3
drop-job_room-requires-in_err-line-lives-T-Destruct-3 g c κs within = λ a m. ⊑_static _ a (c.type_bounds.static-R a m)

pub drop-requires-lives-T-Destruct-3 : goal.drop-requires-lives-T-Destruct-3
drop-requires-lives-T-Destruct-3 g c κs within = λ a m. ⊑_static _ a (c.type_bounds.static-R a m)

pub make_jobs-jobs-requires-clause-loads : goal.make_jobs-jobs-requires-clause-loads
make_jobs-jobs-requires-clause-loads g c κs within = let few = c.requires.captures.0 in let n = length-loaded c.in_ok-loads.loads.items in let same = ap length c.in_ok-loads.ensures.captures in
    (omega arith, c.in_ok-loads.ensures.loads)

pub make_jobs-jobs-requires-clause-room : goal.make_jobs-jobs-requires-clause-room
make_jobs-jobs-requires-clause-room g c κs within = let n = length-loaded c.in_ok-loads.loads.items in let same = ap length c.in_ok-loads.ensures.captures in let room = c.in_ok-job_room.ensures.capacity in let many = c.len-senders.ensures in let ok = c.args.captures.ok in
    (c.in_ok-job_room.ensures.items, omega arith)

pub transmit-ended-requires-clause-room : goal.transmit-ended-requires-clause-room
transmit-ended-requires-clause-room g c κs within = let n = length-loaded c.in_ok-loads.loads.items in let same = ap length c.in_ok-loads.ensures.captures in let room = c.in_ok-room.ensures.capacity in let many = c.len-senders.ensures in let ok = c.args.captures.ok in
    let lent = ap length c.as_mut_slice.ensures.value in let count = c.make_jobs-jobs.ensures.count in
    (c.in_ok-room.ensures.items, omega arith)
