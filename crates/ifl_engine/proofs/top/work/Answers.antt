use Rattle.std.proofs.Common.{None, Ok, refl, arith}
use Rattle.ifl_engine.specs.declared.stop.Stop.TheVariants as stop
use Rattle.ifl_engine.specs.Read.{names_of}
use Rattle.ifl_engine.specs.Wanted.{sending}
use Rattle.ifl_engine.specs.Loaded.{chosen, each_frames}
use Rattle.ifl_engine.specs.Seen.{seen}
use Rattle.ifl_engine.specs.CutShort.{IsEnding}
use Rattle.ifl_engine.proofs.CutShort.{begins_empty}
use Rattle.ifl_engine.proofs.Stopping.{no_memory}
use Rattle.ifl_engine.proofs.HostStops.{write_stopped}
use Rattle.ifl_engine.proofs.top.work.Goals as goal

pub returns-in-Err-clause-answer : goal.returns-in-Err-clause-answer
returns-in-Err-clause-answer g c =
    let before = (seen g.H.Host.faults g.H.Host.files g.H.Host.printed c.args.host.now) in
    let work = Ok (sending (names_of c.args.names.now) (chosen c.args.load.settings) (each_frames c.args.load.captures)) in
    no_memory (names_of c.args.names.now) work before before
    (seen g.H.Host.faults g.H.Host.files g.H.Host.printed c.tell_named-status.new.host)
    c.tell_named-status.result refl (begins_empty stop.Memory (IsEnding work None) before.printed before.printed refl) (omega arith) c.tell_named-status.ensures

pub returns-in-Err-put_out-clause-answer : goal.returns-in-Err-put_out-clause-answer
returns-in-Err-put_out-clause-answer g c =
    write_stopped (names_of c.args.names.now) (chosen c.args.load.settings) (each_frames c.args.load.captures) c.in-Ok.report c.in-Err-put_out.stop
    (seen g.H.Host.faults g.H.Host.files g.H.Host.printed c.args.host.now)
    (seen g.H.Host.faults g.H.Host.files g.H.Host.printed c.put_out.new.host)
    (seen g.H.Host.faults g.H.Host.files g.H.Host.printed c.tell_named-status-in-Err-put_out.new.host)
    c.tell_named-status-in-Err-put_out.result c.in-Ok.ensures c.in-Err-put_out.ensures.stop c.in-Err-put_out.ensures.later c.in-Err-put_out.ensures.left c.in-Err-put_out.ensures.standing c.in-Err-put_out.ensures.begun c.tell_named-status-in-Err-put_out.ensures
