use Rattle.std.proofs.Common.{ap, map}
use Rattle.std.specs.String.{string_bytes}
use Rattle.ifl_engine.specs.declared.stop.WordsWhy.TheVariants as bad_word
use Rattle.ifl_engine.specs.declared.stop.Stop.TheVariants as stop
use Rattle.ifl_engine.specs.Words.{asked}
use Rattle.ifl_engine.specs.Wanted.{only_trace}
use Rattle.ifl_engine.specs.Seen.{seen}
use Rattle.ifl_engine.proofs.ReadLaws.{for_any}
use Rattle.ifl_engine.proofs.Refusing.{refused_by_words, GivesWords-only_trace}
use Rattle.ifl_engine.proofs.tracing.answer_trace.Goals as goal

pub returns-in-Ok-Send-clause-answer : goal.returns-in-Ok-Send-clause-answer
returns-in-Ok-Send-clause-answer g c =
    for_any (g.H.Host.files c.args.host.now) _ _
    (λ source. refused_by_words (only_trace (asked (map string_bytes c.args.words.now))) source (stop.Words bad_word.Refused)
    (seen g.H.Host.faults g.H.Host.files g.H.Host.printed c.args.host.now)
    (seen g.H.Host.faults g.H.Host.files g.H.Host.printed c.tell.new.host)
    c.tell.result (ap only_trace (rw c.in-Ok-Send.field-0-is at c.in-Ok-Send.ensures.gives)) c.tell.ensures)

pub returns-clause-answer : goal.returns-clause-answer
returns-clause-answer g c =
    for_any (g.H.Host.files c.args.host.now) _ _
    (λ source. refused_by_words (only_trace (asked (map string_bytes c.args.words.now))) source c.in-Err.stop
    (seen g.H.Host.faults g.H.Host.files g.H.Host.printed c.args.host.now)
    (seen g.H.Host.faults g.H.Host.files g.H.Host.printed c.tell-in-Err.new.host)
    c.tell-in-Err.result (GivesWords-only_trace c.in-Err.stop (asked (map string_bytes c.args.words.now)) c.in-Err.ensures.gives) c.tell-in-Err.ensures)
