use Rattle.ifl_engine.specs.Read.{names_of}
use Rattle.ifl_engine.specs.Loading.{read_of}
use Rattle.ifl_engine.specs.Loaded.{load_seen}
use Rattle.ifl_engine.specs.Seen.{seen}
use Rattle.ifl_engine.proofs.ReadLaws.{for_each, from_account}
use Rattle.ifl_engine.proofs.Risen.{risen}
use Rattle.ifl_engine.proofs.Stopping.{send_stopped}
use Rattle.ifl_engine.proofs.Since.{send_read}
use Rattle.ifl_engine.proofs.Refusing.{not_by_words}
use Rattle.ifl_engine.proofs.top.send.Goals as goal

pub returns-in-Ok-clause-answer : goal.returns-in-Ok-clause-answer
returns-in-Ok-clause-answer g c =
    for_each (g.H.Host.files c.args.host.now) _ _ _ _ (λ rose. risen (g.H.Host.faults c.args.host.now) (g.H.Host.faults c.gathered.new.host) (g.H.Host.faults c.work.new.host) rose (c.work.ensures.answer.later))
    (λ source read. send_read (names_of c.args.names.now) source (load_seen c.in-Ok.load)
    (seen g.H.Host.faults g.H.Host.files g.H.Host.printed c.args.host.now)
    (seen g.H.Host.faults g.H.Host.files g.H.Host.printed c.gathered.new.host)
    (seen g.H.Host.faults g.H.Host.files g.H.Host.printed c.work.new.host)
    c.work.result read c.in-Ok.ensures.files c.in-Ok.ensures.printed c.in-Ok.ensures.later c.work.ensures.answer)
    c.in-Ok.ensures.read

pub returns-in-Err-clause-answer : goal.returns-in-Err-clause-answer
returns-in-Err-clause-answer g c =
    for_each (g.H.Host.files c.args.host.now) _ _ _ _ (λ rose. risen (g.H.Host.faults c.args.host.now) (g.H.Host.faults c.gathered.new.host) (g.H.Host.faults c.tell_named-status.new.host) rose c.tell_named-status.ensures.later)
    (λ source read. send_stopped load_seen (names_of c.args.names.now) c.in-Err.stop source
    (seen g.H.Host.faults g.H.Host.files g.H.Host.printed c.args.host.now)
    (seen g.H.Host.faults g.H.Host.files g.H.Host.printed c.gathered.new.host)
    (seen g.H.Host.faults g.H.Host.files g.H.Host.printed c.tell_named-status.new.host)
    c.tell_named-status.result read c.in-Err.ensures.files c.in-Err.ensures.printed c.in-Err.ensures.later (λ e. c.in-Err.ensures.failed e) c.tell_named-status.ensures)
    c.in-Err.ensures.read

pub returns-in-Err-clause-by_words : goal.returns-in-Err-clause-by_words
returns-in-Err-clause-by_words g c = from_account (g.H.Host.files c.args.host.now) _ _ _ (λ source read. not_by_words load_seen (names_of c.args.names.now) c.in-Err.stop (read_of (names_of c.args.names.now) source) _ _ c.tell_named-status.result read c.tell_named-status.ensures) c.in-Err.ensures.read
