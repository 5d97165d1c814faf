use Rattle.std.proofs.Common.{map}
use Rattle.std.specs.String.{string_bytes}
use Rattle.ifl_engine.specs.Words.{asked}
use Rattle.ifl_engine.specs.Seen.{seen}
use Rattle.ifl_engine.proofs.ReadLaws.{for_any}
use Rattle.ifl_engine.proofs.Refusing.{refused_finished}
use Rattle.ifl_engine.proofs.top.answer.Goals as goal

pub returns-clause-answer : goal.returns-clause-answer
returns-clause-answer g c =
    for_any (g.H.Host.files c.args.host.now) _ _
    (λ source. refused_finished (asked (map string_bytes c.args.words.now)) source c.in-Err.stop
    (seen g.H.Host.faults g.H.Host.files g.H.Host.printed c.args.host.now)
    (seen g.H.Host.faults g.H.Host.files g.H.Host.printed c.refuse-in-Err.new.host)
    c.refuse-in-Err.result c.refuse-in-Err.ensures.report c.in-Err.ensures.gives c.refuse-in-Err.ensures.told)
