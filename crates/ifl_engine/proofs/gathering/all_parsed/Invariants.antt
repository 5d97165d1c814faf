use Rattle.std.proofs.Common.{◌≡◌, ◌+◌, ◌≤◌, ◌++◌, length, map, Ok}
use Rattle.std.specs.Prelude.{All, vec_len, vec_capacity}
use Rattle.std.specs.Vec.Iter.{into_iter_items, into_iter_len}
use Rattle.ifl_engine.specs.Loading.{each_from, capture_in}
use Rattle.ifl_engine.specs.Loaded.{bytes_of, each_frames}
use Rattle.ifl_engine.specs.Steps.{AreWithin, IsSmall}
use Rattle.ifl_engine.proofs.gathering.all_parsed.Given as goal

abbrev pub invariant-loop-bytes : goal.invariant-loop-bytes
invariant-loop-bytes l = record {
  all : l.yielded ++ into_iter_items l.bytes-iterator ≡ l.fn.files.items;
  left : into_iter_len l.bytes-iterator ≡ length (into_iter_items l.bytes-iterator);
  within : AreWithin (into_iter_items l.bytes-iterator);
  read : each_from capture_in 0 (map bytes_of l.yielded) ≡ Ok (each_frames l.captures);
  small : All IsSmall (each_frames l.captures);
  number : l.number ≡ length l.yielded;
  many : vec_len l.captures ≡ length l.yielded;
  room : vec_len l.captures + length (into_iter_items l.bytes-iterator) ≤ vec_capacity l.captures;
}
