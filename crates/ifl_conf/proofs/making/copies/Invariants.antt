use Rattle.std.proofs.Common.{◌≡◌, map, take, string_bytes}
use Rattle.ifl_conf.proofs.making.copies.Given as goal

abbrev pub invariant-words : goal.invariant-words
invariant-words l = map string_bytes l.copied.items ≡ map string_bytes (take l.word-index l.words)
