use Rattle.std.proofs.Common.{◌≡◌, ◌+◌, ◌<◌, ◌≤◌, length, take, drop, arith}
use Rattle.std.proofs.lemmas.List.{length-take, length-drop}
use Rattle.std.proofs.lemmas.Result.{err_from_is_err_and}
use Rattle.ifl_pcap.specs.Reading.{frames_at}
use Rattle.ifl_pcap.specs.Table.{front_frame, frames_in}
use Rattle.ifl_pcap.proofs.Loop.{next, ends, is_done}
use Rattle.ifl_pcap.proofs.Places.{frames_in-push, LiesIn-push, drop-record}
use Rattle.ifl_pcap.proofs.reading.places_of.Goals as goal

pub returns-in_err-len-clause-read : goal.returns-in_err-len-clause-read
returns-in_err-len-clause-read c =
    let p = err_from_is_err_and c.from_residual.result c.from_residual.ensures.1 in
    let some : 0 < length c.loop-rest.rest.now = omega arith in
    rw (p.1, p.2) (ends c.args.form c.loop-rest.at c.in_err-len.field-0.0 (frames_in c.args.form c.args.file.now c.loop-rest.places.items) c.loop-rest.rest.now (frames_at c.args.form (length (drop 24 c.args.file.now)) 24 (drop 24 c.args.file.now)) some c.in_err-len.ensures.read c.loop-rest.invariant.so_far)

pub loop-rest-preserved : goal.loop-rest-preserved
loop-rest-preserved c =
    let file = c.args.file.now in
    let rest = c.loop-rest.rest.now in
    let len = c.in_ok-len.len in
    let at = c.loop-rest.at in
    let places = c.loop-rest.places.items in
    let behind = c.split_at-in-loop-rest.result.1.now in
    let after = c.split_at-in-loop-rest-2.result.1.now in
    let some : 0 < length rest = omega arith in
    let there : 16 + len ≤ length rest = c.in_ok-len.ensures.there in
    let taken : length (take len (drop 16 rest)) ≡ len = omega (arith, there, length-take len (drop 16 rest), length-drop 16 rest) in
    let moved : at + (16 + len) ≡ at + (16 + length (take len (drop 16 rest))) = omega (arith, taken) in
    let pushed = frames_in-push c.args.form file places c.push.new.self.items at len rest c.loop-rest.invariant.is c.in_ok-push.ensures.items in
    let after_is : after ≡ drop len (drop 16 rest) = rw (← c.split_at-in-loop-rest.ensures.back) c.split_at-in-loop-rest-2.ensures.back in
    let total = frames_at c.args.form (length (drop 24 file)) 24 (drop 24 file) in record {
      so_far = rw (pushed, after_is) (next c.args.form at (at + (16 + len)) (frames_in c.args.form file places) (front_frame c.args.form len rest) rest (drop len (drop 16 rest)) total some moved c.in_ok-len.ensures.read c.loop-rest.invariant.so_far);
      there = LiesIn-push file places c.push.new.self.items at len c.loop-rest.invariant.there (omega (arith, there, c.loop-rest.invariant.place)) c.in_ok-push.ensures.items;
      is = drop-record file rest behind after at len c.loop-rest.invariant.is c.split_at-in-loop-rest.ensures.back c.split_at-in-loop-rest-2.ensures.back;
      place = omega (arith, there, c.loop-rest.invariant.place, c.split_at-in-loop-rest.ensures.back_len, c.split_at-in-loop-rest-2.ensures.back_len);
    }

pub returns-clause-read : goal.returns-clause-read
returns-clause-read c =
    let none : length c.loop-rest.rest.now ≡ 0 = omega arith in
    is_done c.args.form c.loop-rest.at (frames_in c.args.form c.args.file.now c.loop-rest.places.items) c.loop-rest.rest.now (frames_at c.args.form (length (drop 24 c.args.file.now)) 24 (drop 24 c.args.file.now)) none c.loop-rest.invariant.so_far
