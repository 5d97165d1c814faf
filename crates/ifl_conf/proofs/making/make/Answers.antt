use Rattle.std.proofs.Common.{◌≡◌, arith, string_bytes}
use Rattle.std.proofs.lemmas.Grind.{common_steps}
use Rattle.ifl_conf.proofs.Unpacked.{send_parts, check_parts, gen_parts, trace_files, grammar_parts}
use Rattle.ifl_conf.proofs.FileLists.{only_file}
use Rattle.ifl_conf.proofs.making.make.Goals as goal

pub make_send-requires-clause-wire : goal.make_send-requires-clause-wire
make_send-requires-clause-wire c = (send_parts _ _ (rw c.in-Send.is at c.requires)).0

pub make_send-requires-clause-order : goal.make_send-requires-clause-order
make_send-requires-clause-order c = (send_parts _ _ (rw c.in-Send.is at c.requires)).1

pub make_check-requires-clause-wire : goal.make_check-requires-clause-wire
make_check-requires-clause-wire c = (check_parts _ _ (rw c.in-Check.is at c.requires)).0

pub make_check-requires-clause-order : goal.make_check-requires-clause-order
make_check-requires-clause-order c = (check_parts _ _ (rw c.in-Check.is at c.requires)).1

pub bounds-files-0 : goal.bounds-files-0
bounds-files-0 c = (only_file c.args.files.now (trace_files _ _ (rw c.in-Trace.is at c.requires))).0

pub make_gen-requires-clause-wire : goal.make_gen-requires-clause-wire
make_gen-requires-clause-wire c = (gen_parts _ _ (rw c.in-Gen.is at c.requires)).0

pub make_gen-requires-clause-order : goal.make_gen-requires-clause-order
make_gen-requires-clause-order c = (gen_parts _ _ (rw c.in-Gen.is at c.requires)).1

pub make_gen-requires-clause-seed : goal.make_gen-requires-clause-seed
make_gen-requires-clause-seed c = (gen_parts _ _ (rw c.in-Gen.is at c.requires)).2

pub make_gen-requires-clause-senders : goal.make_gen-requires-clause-senders
make_gen-requires-clause-senders c = (gen_parts _ _ (rw c.in-Gen.is at c.requires)).3

pub make_gen-requires-clause-frames : goal.make_gen-requires-clause-frames
make_gen-requires-clause-frames c = (gen_parts _ _ (rw c.in-Gen.is at c.requires)).4

pub make_gen-requires-clause-numbers : goal.make_gen-requires-clause-numbers
make_gen-requires-clause-numbers c = (grammar_parts _ _ _ c.requires).1

pub returns-in_ok-from_str-in-Trace-clause-shows : goal.returns-in_ok-from_str-in-Trace-clause-shows
returns-in_ok-from_str-in-Trace-clause-shows c =
    let alone = (only_file c.args.files.now (trace_files _ _ (rw c.in-Trace.is at c.requires))).1 c.index-files-0.result c.index-files-0.is in
    let same : string_bytes c.in_ok-from_str-in-Trace.field-0 ≡ string_bytes c.index-files-0.result = grind (arith, common_steps) in
    (c.in-Trace.is, rw same alone)
