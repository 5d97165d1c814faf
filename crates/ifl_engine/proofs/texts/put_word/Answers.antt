use Rattle.std.proofs.Common.{◌≡◌, ℕ, List, ◌++◌, ap, ◌∙◌, codes}
use Rattle.std.specs.String.{string_bytes}
use Rattle.ifl_base.specs.Word.{name_of}
use Rattle.ifl_engine.specs.Texts.{field}
use Rattle.ifl_engine.proofs.Appending.{append-twice}
use Rattle.ifl_engine.proofs.texts.put_word.Goals as goal

pub returns : goal.returns
returns c =
    let w = c.args.seen in
    let name = name_of w.flag in
    let was = string_bytes c.args.out.now in
    let a = string_bytes c.put_field.new.out in
    let b = string_bytes c.put_field-2.new.out in
    let d = string_bytes c.put_field-3.new.out in
    let e = string_bytes c.put_text.new.out in
    let now = string_bytes c.put_text-2.new.out in
    let flag : now ≡ e ++ name = c.in_ok-put_text-2.ensures ∙ ap (λ (t : List ℕ). e ++ t) c.name.ensures in
    append-twice was a now (field w.head) (field w.tail ++ (field w.cidx ++ (codes " " ++ name))) c.in_ok-put_field.ensures
    (append-twice a b now (field w.tail) (field w.cidx ++ (codes " " ++ name)) c.in_ok-put_field-2.ensures
    (append-twice b d now (field w.cidx) (codes " " ++ name) c.in_ok-put_field-3.ensures
    (append-twice d e now (codes " ") name c.in_ok-put_text.ensures flag)))
