use Rattle.std.proofs.Common.{◌≡◌, None, Ok, inl, inr, refl, arith, rules}
use Rattle.ifl_engine.specs.declared.stop.Stop.TheVariants as stop
use Rattle.ifl_engine.specs.Words.{trace}
use Rattle.ifl_engine.specs.Tracing.{IsLegalSchedule}
use Rattle.ifl_engine.specs.Wanted.{tracing}
use Rattle.ifl_engine.specs.FaultLines.{names_asked}
use Rattle.ifl_engine.specs.Seen.{seen}
use Rattle.ifl_engine.specs.CutShort.{IsEnding}
use Rattle.ifl_engine.proofs.CutShort.{begins_empty}
use Rattle.ifl_engine.proofs.Stopping.{gave_up, no_memory}
use Rattle.ifl_engine.proofs.HostStops.{begins_print}
use Rattle.ifl_engine.proofs.tracing.print_replay.Goals as goal

pub returns-in-Err-clause-answer : goal.returns-in-Err-clause-answer
returns-in-Err-clause-answer g c =
    let before = (seen g.H.Host.faults g.H.Host.files g.H.Host.printed c.args.host.now) in
    no_memory (names_asked (trace c.args.file.now)) (Ok (tracing c.args.bytes.now)) before before
    (seen g.H.Host.faults g.H.Host.files g.H.Host.printed c.tell_file.new.host)
    c.tell_file.result refl (begins_empty stop.Memory (IsEnding (Ok (tracing c.args.bytes.now)) None) before.printed before.printed refl) (omega arith) c.tell_file.ensures

pub returns-in-Err-Failed-clause-answer : goal.returns-in-Err-Failed-clause-answer
returns-in-Err-Failed-clause-answer g c =
    let before = (seen g.H.Host.faults g.H.Host.files g.H.Host.printed c.args.host.now) in
    let mid = (seen g.H.Host.faults g.H.Host.files g.H.Host.printed c.print.new.self) in
    let zero : c.in-Ok.field-0.status ≡ 0 = search rules in
    let legal : IsLegalSchedule c.args.bytes.now = (c.in-Ok.field-0.text, rw zero at c.in-Ok.ensures.replay) in
    gave_up (names_asked (trace c.args.file.now)) (Ok (tracing c.args.bytes.now)) stop.PrintFailed before mid
    (seen g.H.Host.faults g.H.Host.files g.H.Host.printed c.tell_file-in-Err-Failed.new.host)
    c.tell_file-in-Err-Failed.result (inl (refl, legal)) (inr (inr (legal, refl))) (λ five. c.in-Err-Failed.ensures.cause.failed (rw c.in-Err-Failed.field-0-is refl)) c.in-Err-Failed.ensures.files
    (begins_print stop.PrintFailed (IsEnding (Ok (tracing c.args.bytes.now)) None) c.in-Ok.field-0.text before.printed mid.printed (inl refl) (c.in-Ok.field-0.status, c.in-Ok.ensures.replay) (rw c.as_slice.ensures at c.in-Err-Failed.ensures.prefix))
    c.in-Err-Failed.ensures.cause.later c.tell_file-in-Err-Failed.ensures

pub returns-clause-answer : goal.returns-clause-answer
returns-clause-answer g c =
    let before = (seen g.H.Host.faults g.H.Host.files g.H.Host.printed c.args.host.now) in
    let mid = (seen g.H.Host.faults g.H.Host.files g.H.Host.printed c.print.new.self) in
    no_memory (names_asked (trace c.args.file.now)) (Ok (tracing c.args.bytes.now)) before mid
    (seen g.H.Host.faults g.H.Host.files g.H.Host.printed c.tell_file-in-Err-Memory.new.host)
    c.tell_file-in-Err-Memory.result c.in-Err-Memory.ensures.files
    (begins_print stop.Memory (IsEnding (Ok (tracing c.args.bytes.now)) None) c.in-Ok.field-0.text before.printed mid.printed (inr refl) (c.in-Ok.field-0.status, c.in-Ok.ensures.replay) (rw c.as_slice.ensures at c.in-Err-Memory.ensures.prefix))
    c.in-Err-Memory.ensures.cause.later c.tell_file-in-Err-Memory.ensures
