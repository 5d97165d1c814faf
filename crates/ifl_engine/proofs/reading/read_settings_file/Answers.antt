use Rattle.std.proofs.Common.{ap, List, ℕ, Option}
use Rattle.std.specs.Prelude.{option_map}
use Rattle.std.specs.String.{string_bytes}
use Rattle.ifl_engine.specs.declared.stop.Input.TheVariants as input
use Rattle.ifl_engine.specs.Loading.{settings_file}
use Rattle.ifl_engine.proofs.ReadLaws.{for_any}
use Rattle.ifl_engine.proofs.reading.read_settings_file.Goals as goal

pub returns-in-None-clause-read : goal.returns-in-None-clause-read
returns-in-None-clause-read g c = for_any (g.H.Host.files c.args.host.now) _ _ (λ source. ap (λ (n : Option (List ℕ)). settings_file n (source input.Settings)) (ap (option_map string_bytes) c.in-None.is))
