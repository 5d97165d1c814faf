use Rattle.std.proofs.Common.{None}
use Rattle.ifl_engine.specs.Seen.{seen}
use Rattle.ifl_engine.proofs.ReadLaws.{for_each}
use Rattle.ifl_engine.proofs.Risen.{risen}
use Rattle.ifl_engine.proofs.Since.{trace_read}
use Rattle.ifl_engine.proofs.Stopping.{trace_stopped}
use Rattle.ifl_engine.proofs.tracing.trace.Goals as goal

pub returns-in-Ok-clause-answer : goal.returns-in-Ok-clause-answer
returns-in-Ok-clause-answer g c =
    for_each (g.H.Host.files c.args.host.now) _ _ _ _ (λ rose. risen (g.H.Host.faults c.args.host.now) (g.H.Host.faults c.read_file.new.host) (g.H.Host.faults c.print_replay.new.host) rose c.print_replay.ensures.answer.later)
    (λ source read. trace_read c.args.file.now source c.in-Ok.bytes.items
    (seen g.H.Host.faults g.H.Host.files g.H.Host.printed c.args.host.now)
    (seen g.H.Host.faults g.H.Host.files g.H.Host.printed c.read_file.new.host)
    (seen g.H.Host.faults g.H.Host.files g.H.Host.printed c.print_replay.new.host)
    (record { status = c.print_replay.result; report = None }) read c.in-Ok.ensures.files c.in-Ok.ensures.printed c.in-Ok.ensures.later (rw c.deref.ensures.value at c.print_replay.ensures.answer))
    c.in-Ok.ensures.read

pub returns-in-Err-clause-answer : goal.returns-in-Err-clause-answer
returns-in-Err-clause-answer g c =
    for_each (g.H.Host.files c.args.host.now) _ _ _ _ (λ rose. risen (g.H.Host.faults c.args.host.now) (g.H.Host.faults c.read_file.new.host) (g.H.Host.faults c.tell_file.new.host) rose c.tell_file.ensures.later)
    (λ source read. trace_stopped c.args.file.now c.in-Err.stop source
    (seen g.H.Host.faults g.H.Host.files g.H.Host.printed c.args.host.now)
    (seen g.H.Host.faults g.H.Host.files g.H.Host.printed c.read_file.new.host)
    (seen g.H.Host.faults g.H.Host.files g.H.Host.printed c.tell_file.new.host)
    c.tell_file.result read c.in-Err.ensures.files c.in-Err.ensures.printed c.in-Err.ensures.later (λ e. c.in-Err.ensures.failed e) c.tell_file.ensures)
    c.in-Err.ensures.read
