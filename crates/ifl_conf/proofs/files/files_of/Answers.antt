use Rattle.std.proofs.Common.{◌≡◌, ◌-◌, length, take, drop, true, false, string_bytes, codes, arith}
use Rattle.std.proofs.lemmas.Grind.{common_steps}
use Rattle.std.specs.List.{list_all}
use Rattle.std.specs.Str.{bytes_eq}
use Rattle.ifl_conf.specs.FileWords.{is_filled}
use Rattle.ifl_conf.proofs.FileLists.{files_marked}
use Rattle.ifl_conf.proofs.files.files_of.Goals as goal

pub returns-then-are_filled : goal.returns-then-are_filled
returns-then-are_filled c =
    let xs = c.args.words.now in
    let whole : take (length xs - 1) (drop 1 xs) ≡ drop 1 xs = grind (arith, common_steps) in
    let m : bytes_eq (string_bytes c.index-words-0.result) (codes "--") ≡ true = grind (arith, common_steps) in
    let filled : list_all (λ f. is_filled (string_bytes f)) (take (length xs - 1) (drop 1 xs)) ≡ true = grind (arith, common_steps) in
    let all = rw whole at filled in
    rw (whole, files_marked xs c.index-words-0.result (grind (arith, common_steps)) c.index-words-0.is m, all)

pub returns-else-are_filled : goal.returns-else-are_filled
returns-else-are_filled c =
    let xs = c.args.words.now in
    let whole : take (length xs - 1) (drop 1 xs) ≡ drop 1 xs = grind (arith, common_steps) in
    let m : bytes_eq (string_bytes c.index-words-0.result) (codes "--") ≡ true = grind (arith, common_steps) in
    let filled : list_all (λ f. is_filled (string_bytes f)) (take (length xs - 1) (drop 1 xs)) ≡ false = grind (arith, common_steps) in
    let all = rw whole at filled in
    rw (files_marked xs c.index-words-0.result (grind (arith, common_steps)) c.index-words-0.is m, all)
