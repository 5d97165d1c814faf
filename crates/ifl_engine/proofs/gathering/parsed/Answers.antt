use Rattle.ifl_engine.proofs.Lines.{is_small}
use Rattle.ifl_engine.proofs.ReadLaws.{capture_in-ok, capture_in-bad}
use Rattle.ifl_engine.proofs.gathering.parsed.Goals as goal

pub returns-in-Ok-clause-read : goal.returns-in-Ok-clause-read
returns-in-Ok-clause-read c = capture_in-ok c.args.number c.args.bytes.items c.in-Ok.capture.frames c.in-Ok.ensures.exact

pub returns-in-Ok-clause-small : goal.returns-in-Ok-clause-small
returns-in-Ok-clause-small c = is_small c.args.bytes.items c.in-Ok.capture.frames c.requires c.in-Ok.ensures.found

pub returns-in-Err-Bad-clause-read : goal.returns-in-Err-Bad-clause-read
returns-in-Err-Bad-clause-read c = let exact = rw c.in-Err-Bad.field-0-is at c.in-Err-Bad.ensures.exact in capture_in-bad c.args.number c.args.bytes.items c.in-Err-Bad.at c.in-Err-Bad.why exact
