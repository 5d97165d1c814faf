-- What holds of a beginning of a history, and of a history between two.
use Rattle.std.proofs.Common.{◌≡◌, ℕ, List, [], ◌∷◌, ◌++◌, length, sym, ap, ◌∙◌, subst, arith, append_assoc, append-nil}
use mathlib.Core.List.{IsPrefix}
use Rattle.ifl_desc.specs.declared.history.Side.{Side}
use Rattle.ifl_desc.specs.declared.history.Event.{Event}
use Rattle.ifl_desc.specs.History.{own}
use Rattle.ifl_desc.specs.Frames.{AllFine}
use Rattle.ifl_desc.specs.Rule.{IsLawful}
use Rattle.ifl_desc.proofs.Steps.{own_append}
use Rattle.ifl_desc.proofs.OwnSteps.{own_rest}
use Rattle.ifl_desc.proofs.Closing.{prefix_trans}

second_nil : {A : Type 0} (x y : List A) → x ++ y ≡ [] → y ≡ []
second_nil [] y e = e
second_nil (a ∷ x) y e = absurd (let n = ap length e in omega arith)

-- where a side made no step from a to c, it made none from b to c
pub own_between : (r : Side) (a b c : List Event) → IsPrefix a b → IsPrefix b c → own r a ≡ own r c → own r b ≡ own r c
own_between r a b c p q e =
    let on : a ++ (p.0 ++ q.0) ≡ c = sym (append_assoc a p.0 q.0) ∙ ap (λ (z : List Event). z ++ q.0) p.1 ∙ q.1 in
    let rest : own r (p.0 ++ q.0) ≡ [] = own_rest r a (p.0 ++ q.0) (e ∙ ap (own r) (sym on)) in
    let last : own r q.0 ≡ [] = second_nil (own r p.0) (own r q.0) (sym (own_append r p.0 q.0) ∙ rest) in
    sym (append-nil (own r b)) ∙ ap (λ (z : List Event). own r b ++ z) (sym last) ∙ sym (own_append r b q.0) ∙ ap (own r) q.1

fine_front : (g t : List Event) → AllFine (g ++ t) → AllFine g
fine_front [] t f = tt
fine_front (e ∷ g) t f = (f.0, fine_front g t f.1)

pub lawful_prefix : (S : ℕ) (g h : List Event) → IsPrefix g h → IsLawful S h → IsLawful S g
lawful_prefix S g h p l = record {
  order = λ f q. l.order f (prefix_trans f g h q p);
  frames = fine_front g p.0 (subst AllFine (sym p.1) l.frames);
}
