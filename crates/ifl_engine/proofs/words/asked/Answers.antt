use Rattle.std.proofs.Common.{Ok, Err, map}
use Rattle.std.specs.String.{string_bytes}
use Rattle.ifl_engine.proofs.Apart.{gives, apart}
use Rattle.ifl_engine.proofs.words.asked.Goals as goal

pub returns-in-Ok-clause-gives : goal.returns-in-Ok-clause-gives
returns-in-Ok-clause-gives c = gives (map string_bytes c.args.words.now) (Ok c.in-Ok.command) c.in-Ok.ensures.answer c.in-Ok.ensures.served

pub returns-in-Ok-clause-apart : goal.returns-in-Ok-clause-apart
returns-in-Ok-clause-apart c = apart (map string_bytes c.args.words.now) (Ok c.in-Ok.command) c.in-Ok.ensures.answer

pub returns-in-Err-clause-gives : goal.returns-in-Err-clause-gives
returns-in-Err-clause-gives c = rw c.words_stop.ensures (gives (map string_bytes c.args.words.now) (Err c.in-Err.fault) c.in-Err.ensures.answer tt)
