use Rattle.std.proofs.Common.{◌≡◌, ℕ, List, ◌++◌, sym, ap, ◌∙◌, codes}
use Rattle.std.specs.Prelude.{decimal}
use Rattle.std.specs.String.{string_bytes}
use mathlib.Core.List.{append_assoc}
use Rattle.ifl_engine.specs.Texts.{text_line, open_line, word_text}
use Rattle.ifl_engine.proofs.Appending.{append-twice}
use Rattle.ifl_engine.proofs.texts.put_refused.Goals as goal

-- what follows an open line belongs to its text
open_line-append : (s k : ℕ) (text more : List ℕ) → open_line s k text ++ (more ++ codes "\n") ≡ text_line s k (text ++ more)
unfolding text_line
open_line-append s k text more =
    append_assoc (decimal s) (codes " " ++ (decimal k ++ (codes " " ++ text))) (more ++ codes "\n")
    ∙ ap (λ (z : List ℕ). decimal s ++ (codes " " ++ z)) (append_assoc (decimal k) (codes " " ++ text) (more ++ codes "\n"))
    ∙ ap (λ (z : List ℕ). decimal s ++ (codes " " ++ (decimal k ++ (codes " " ++ z)))) (sym (append_assoc text more (codes "\n")))

pub returns : goal.returns
returns c =
    let was = string_bytes c.args.out.now in
    let t = c.args.ticket in
    let line = open_line t.sender t.index (codes "no_buffers") in
    let word = word_text c.args.seen in
    append-twice was (string_bytes c.put_open.new.out) (string_bytes c.put_text.new.out) line (word ++ codes "\n") c.in_ok-put_open.ensures
    (append-twice (string_bytes c.put_open.new.out) (string_bytes c.put_word.new.out) (string_bytes c.put_text.new.out) word (codes "\n") c.in_ok-put_word.ensures c.in_ok-put_text.ensures)
    ∙ ap (λ (z : List ℕ). was ++ z) (open_line-append t.sender t.index (codes "no_buffers") word)
