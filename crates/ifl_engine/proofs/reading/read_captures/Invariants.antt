use Rattle.std.proofs.Common.{◌≡◌, ◌≤◌, length, map, take, Ok}
use Rattle.std.specs.Prelude.{vec_len, vec_capacity}
use Rattle.std.specs.String.{string_bytes}
use Rattle.ifl_outside.specs.Causes.{Rose}
use Rattle.ifl_engine.specs.Account.{ForAccount}
use Rattle.ifl_engine.specs.Loading.{each_from, capture_file}
use Rattle.ifl_engine.specs.Loaded.{each_bytes}
use Rattle.ifl_engine.specs.Steps.{AreWithin}
use Rattle.ifl_engine.proofs.reading.read_captures.Given as goal

abbrev pub invariant-loop-i : goal.invariant-loop-i
invariant-loop-i g l = record {
  read : ForAccount (g.H.Host.files l.fn.host) (Rose (g.H.Host.faults l.fn.host) (g.H.Host.faults l.host)) (λ source. each_from (capture_file source) 0 (take l.i (map string_bytes l.names)) ≡ Ok (each_bytes l.captures));
  within : AreWithin l.captures.items;
  many : vec_len l.captures ≡ l.i;
  room : length l.names ≤ vec_capacity l.captures;
  files : g.H.Host.files l.host ≡ g.H.Host.files l.fn.host;
  printed : g.H.Host.printed l.host ≡ g.H.Host.printed l.fn.host;
  later : g.H.Host.faults l.fn.host ≤ g.H.Host.faults l.host;
}
