use Rattle.std.proofs.Common.{None, refl, map}
use Rattle.std.specs.String.{string_bytes}
use Rattle.ifl_engine.specs.Words.{asked}
use Rattle.ifl_engine.specs.Seen.{seen}
use Rattle.ifl_engine.specs.Wanted.{only_trace, wanted_by}
use Rattle.ifl_engine.specs.FaultLines.{names_or_none}
use Rattle.ifl_engine.proofs.ReadLaws.{from_account}
use Rattle.ifl_engine.proofs.Clauses.{failed, untouched}
use Rattle.ifl_engine.proofs.tracing.run_trace.Goals as goal

pub returns-clause-failed : goal.returns-clause-failed
returns-clause-failed g c =
    from_account (g.H.Host.files c.args.host.now) _ _ _
    (λ source a. failed (names_or_none (only_trace (asked (map string_bytes c.args.words.now)))) (wanted_by (only_trace (asked (map string_bytes c.args.words.now))) source)
    (seen g.H.Host.faults g.H.Host.files g.H.Host.printed c.args.host.now)
    (seen g.H.Host.faults g.H.Host.files g.H.Host.printed c.answer_trace.new.host) (record { status = c.answer_trace.result; report = None }) a)
    c.answer_trace.ensures.answer

pub returns-clause-untouched : goal.returns-clause-untouched
returns-clause-untouched g c =
    from_account (g.H.Host.files c.args.host.now) _ _ _
    (λ source a. untouched (names_or_none (only_trace (asked (map string_bytes c.args.words.now)))) (wanted_by (only_trace (asked (map string_bytes c.args.words.now))) source)
    (seen g.H.Host.faults g.H.Host.files g.H.Host.printed c.args.host.now)
    (seen g.H.Host.faults g.H.Host.files g.H.Host.printed c.answer_trace.new.host) (record { status = c.answer_trace.result; report = None }) a refl)
    c.answer_trace.ensures.answer
