use Rattle.std.proofs.Common.{refl}
use Rattle.ifl_engine.proofs.ReadLaws.{for_bytes, for_absent, for_long, for_failed, for_any}
use Rattle.ifl_engine.proofs.reading.read_file.Goals as goal

pub returns-in-Ok-Bytes-clause-read : goal.returns-in-Ok-Bytes-clause-read
returns-in-Ok-Bytes-clause-read g c =
    let told = rw (c.in-Ok-Bytes.field-0-is, ← c.into_vec.ensures) at c.in-Ok-Bytes.ensures.fetched in
    let within = rw (c.in-Ok-Bytes.field-0-is, ← c.into_vec.ensures) at c.in-Ok-Bytes.ensures.within in
    for_bytes (g.H.Host.files c.args.host.now) _ c.args.which c.args.name.now c.args.limit c.into_vec.result within told

pub returns-in-Ok-Absent-clause-read : goal.returns-in-Ok-Absent-clause-read
returns-in-Ok-Absent-clause-read g c = let told = rw c.in-Ok-Absent.field-0-is at c.in-Ok-Absent.ensures.fetched in for_absent (g.H.Host.files c.args.host.now) _ c.args.which c.args.name.now c.args.limit told

pub returns-in-Ok-TooLong-clause-read : goal.returns-in-Ok-TooLong-clause-read
returns-in-Ok-TooLong-clause-read g c = let told = rw c.in-Ok-TooLong.field-0-is at c.in-Ok-TooLong.ensures.fetched in for_long (g.H.Host.files c.args.host.now) _ c.args.which c.args.name.now c.args.limit told

pub returns-in-Err-Failed-clause-read : goal.returns-in-Err-Failed-clause-read
returns-in-Err-Failed-clause-read g c = for_failed (g.H.Host.files c.args.host.now) _ c.args.which c.args.name.now c.args.limit (c.in-Err-Failed.ensures.cause.failed (rw c.in-Err-Failed.field-0-is refl))

pub returns-in-Err-Memory-clause-read : goal.returns-in-Err-Memory-clause-read
returns-in-Err-Memory-clause-read g c = for_any (g.H.Host.files c.args.host.now) _ _ (λ source. tt)
