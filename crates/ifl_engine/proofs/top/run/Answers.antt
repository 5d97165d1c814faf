use Rattle.std.proofs.Common.{map}
use Rattle.std.specs.String.{string_bytes}
use Rattle.ifl_engine.specs.Seen.{seen}
use Rattle.ifl_engine.specs.Wanted.{wanted}
use Rattle.ifl_engine.specs.FaultLines.{names_in}
use Rattle.ifl_engine.proofs.ReadLaws.{from_account}
use Rattle.ifl_engine.proofs.Clauses.{failed, refused}
use Rattle.ifl_engine.proofs.top.run.Goals as goal

pub returns-clause-failed : goal.returns-clause-failed
returns-clause-failed g c =
    from_account (g.H.Host.files c.args.host.now) _ _ _
    (λ source a. failed (names_in (map string_bytes c.args.words.now)) (wanted (map string_bytes c.args.words.now) source)
    (seen g.H.Host.faults g.H.Host.files g.H.Host.printed c.args.host.now)
    (seen g.H.Host.faults g.H.Host.files g.H.Host.printed c.answer.new.host) c.answer.result a)
    c.answer.ensures.answer

pub returns-clause-refused : goal.returns-clause-refused
returns-clause-refused g c =
    from_account (g.H.Host.files c.args.host.now) _ _ _
    (λ source a. refused (names_in (map string_bytes c.args.words.now)) (wanted (map string_bytes c.args.words.now) source)
    (seen g.H.Host.faults g.H.Host.files g.H.Host.printed c.args.host.now)
    (seen g.H.Host.faults g.H.Host.files g.H.Host.printed c.answer.new.host) c.answer.result a)
    c.answer.ensures.answer
