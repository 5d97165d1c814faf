use Rattle.std.proofs.Common.{arith}
use Rattle.std.specs.String.{string_bytes}
use Rattle.std.proofs.lemmas.List.{length-map}
use Rattle.std.proofs.lemmas.Result.{err_from_is_err_and}
use Rattle.ifl_engine.specs.Read.{names_of}
use Rattle.ifl_engine.specs.Loaded.{bytes_seen, load_seen}
use Rattle.ifl_engine.proofs.ReadLaws.{for_any, for_each}
use Rattle.ifl_engine.proofs.Loading.{read_of-over, read_of-then, read_of-stopped}
use Rattle.ifl_engine.proofs.gathering.gathered.Goals as goal

pub returns-then-len-clause-read : goal.returns-then-len-clause-read
returns-then-len-clause-read g c =
    for_any (g.H.Host.files c.args.host.now) _ _ (λ source. read_of-over (names_of c.args.names.now) source (omega (arith, length-map c.args.names.now.files.items string_bytes, c.len.ensures)))

pub returns-in_err-files-clause-read : goal.returns-in_err-files-clause-read
returns-in_err-files-clause-read g c =
    let stopped = err_from_is_err_and c.from_residual.result c.from_residual.ensures.1 in
    rw (stopped.1, stopped.2) (for_each (g.H.Host.files c.args.host.now) _ _ _ _ (λ rose. rose)
    (λ source read. read_of-stopped bytes_seen load_seen (names_of c.args.names.now) source c.in_err-files.field-0.0 (omega (arith, length-map c.args.names.now.files.items string_bytes, c.len.ensures)) read)
    c.in_err-files.ensures.read)

pub returns-clause-read : goal.returns-clause-read
returns-clause-read g c =
    for_each (g.H.Host.files c.args.host.now) _ _ _ _ (λ rose. rose)
    (λ source read. read_of-then load_seen (names_of c.args.names.now) source (bytes_seen c.in_ok-files.files) c.loaded.result (omega (arith, length-map c.args.names.now.files.items string_bytes, c.len.ensures)) read c.loaded.ensures.read)
    c.in_ok-files.ensures.read
