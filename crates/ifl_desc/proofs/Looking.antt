-- How many times a side looked and the doorbell was rung, and the steps of a side that ring nothing.
use Rattle.std.proofs.Common.{◌≡◌, ℕ, suc, ◌+◌, List, [], ◌∷◌, ◌++◌, sym, refl, ap, ◌∙◌, arith, append_assoc, append-nil}
use Rattle.ifl_desc.specs.declared.history.Side.{Side}
use Rattle.ifl_desc.specs.declared.history.Side.TheVariants.{Driver, Device}
use Rattle.ifl_desc.specs.declared.history.Event.{Event}
use Rattle.ifl_desc.specs.declared.history.Event.TheVariants.{Sent, Looked, Cleared}
use Rattle.ifl_desc.specs.Ends.{DriverSees}
use Rattle.ifl_desc.specs.History.{own_in, own, looks_in, looks, bells_in, bells, IsLook, AreLooks, LooksOnly}
use Rattle.ifl_desc.specs.Calls.{Grew, Flushes, Credits}
use Rattle.ifl_desc.proofs.Steps.{Counting, own_append}

pub bells_append : (g h : List Event) → bells (g ++ h) ≡ bells g + bells h
bells_append [] h = omega arith
bells_append (e ∷ g) h = let i = bells_append g h in omega arith

bells_own_in : (e : Event) → bells (own_in Driver e) ≡ bells_in e
bells_own_in (Sent Driver ds) = refl
bells_own_in (Sent Device ds) = refl
bells_own_in (Looked Driver n) = refl
bells_own_in (Looked Device n) = refl
bells_own_in (Cleared n) = refl

-- the driver's own steps alone count
pub bells_own : (h : List Event) → bells (own Driver h) ≡ bells h
bells_own [] = refl
bells_own (e ∷ h) = let a = bells_append (own_in Driver e) (own Driver h) in let b = bells_own_in e in let i = bells_own h in omega arith

pub same_bells : (g h : List Event) → own Driver g ≡ own Driver h → bells g ≡ bells h
same_bells g h e = sym (bells_own g) ∙ ap bells e ∙ bells_own h

bells_look : (e : Event) → IsLook Driver e → bells_in e ≡ 0
bells_look (Sent b ds) k = absurd k
bells_look (Looked b n) k = refl
bells_look (Cleared n) k = refl

pub bells_looks : (es : List Event) → AreLooks Driver es → bells es ≡ 0
bells_looks [] k = refl
bells_looks (e ∷ es) k = let a = bells_look e k.0 in let i = bells_looks es k.1 in omega arith

pub are_looks_join : (r : Side) (es fs : List Event) → AreLooks r es → AreLooks r fs → AreLooks r (es ++ fs)
are_looks_join r [] fs k l = l
are_looks_join r (e ∷ es) fs k l = (k.0, are_looks_join r es fs k.1 l)

pub only_none : (r : Side) (h : List Event) → LooksOnly r h h
only_none r h = ([], sym (append-nil (own r h)), tt)

pub only_trans : (r : Side) (g h i : List Event) → LooksOnly r g h → LooksOnly r h i → LooksOnly r g i
only_trans r g h i a b = (a.0 ++ b.0, b.1 ∙ ap (λ (z : List Event). z ++ b.0) a.1 ∙ append_assoc (own r g) a.0 b.0, are_looks_join r a.0 b.0 a.2 b.2)

pub grew_own : (r : Side) (g h : List Event) (e : Event) → Grew r g h e → own r h ≡ own r g ++ own r (e ∷ [])
grew_own r g h e w = ap (own r) w.1 ∙ own_append r (g ++ w.0) (e ∷ [])
    ∙ ap (λ (z : List Event). z ++ own r (e ∷ [])) (own_append r g w.0 ∙ ap (λ (z : List Event). own r g ++ z) w.2 ∙ append-nil (own r g))

-- a look
pub only_one : (r : Side) (g h : List Event) (n : ℕ) (e : Event) → Counting r n e → Grew r g h e → LooksOnly r g h
only_one r g h n e k w = (e ∷ [], grew_own r g h e w ∙ ap (λ (z : List Event). own r g ++ z) (append-nil (own_in r e) ∙ k.is.0), (k.look, tt))

pub bells_only : (g h : List Event) → LooksOnly Driver g h → bells h ≡ bells g
bells_only g h k =
    let a = bells_own h in let b = bells_own g in let c = ap bells k.1 in let d = bells_append (own Driver g) k.0 in let e = bells_looks k.0 k.2 in omega arith

pub bells_Credits : (a : DriverSees) (n : ℕ) (b : DriverSees) → Credits a n b → bells b.seen ≡ bells a.seen
bells_Credits a n b c = bells_only a.seen b.seen c.own_steps

pub bells_Flushes : (a b : DriverSees) → Flushes a b → bells b.seen ≡ suc (bells a.seen)
bells_Flushes a b f =
    let x = bells_own b.seen in let y = bells_own a.seen in let z = ap bells (grew_own Driver a.seen b.seen (Sent Driver a.pending) f.0) in
    let w = bells_append (own Driver a.seen) (own Driver (Sent Driver a.pending ∷ [])) in omega arith

pub looks_append : (r : Side) (g h : List Event) → looks r (g ++ h) ≡ looks r g + looks r h
looks_append r [] h = omega arith
looks_append r (e ∷ g) h = let i = looks_append r g h in omega arith

looks_own_in : (r : Side) (e : Event) → looks r (own_in r e) ≡ looks_in r e
looks_own_in Driver (Sent Driver ds) = refl
looks_own_in Driver (Sent Device ds) = refl
looks_own_in Driver (Looked Driver n) = refl
looks_own_in Driver (Looked Device n) = refl
looks_own_in Driver (Cleared n) = refl
looks_own_in Device (Sent Driver ds) = refl
looks_own_in Device (Sent Device ds) = refl
looks_own_in Device (Looked Driver n) = refl
looks_own_in Device (Looked Device n) = refl
looks_own_in Device (Cleared n) = refl

-- a side's own steps alone count
pub looks_own : (r : Side) (h : List Event) → looks r (own r h) ≡ looks r h
looks_own r [] = refl
looks_own r (e ∷ h) = let a = looks_append r (own_in r e) (own r h) in let b = looks_own_in r e in let i = looks_own r h in omega arith

pub same_looks : (r : Side) (g h : List Event) → own r g ≡ own r h → looks r g ≡ looks r h
same_looks r g h e = sym (looks_own r g) ∙ ap (looks r) e ∙ looks_own r h

pub grew_looks : (r : Side) (g h : List Event) (e : Event) → Grew r g h e → looks r h ≡ looks r g + looks_in r e
grew_looks r g h e w =
    let a = ap (looks r) w.1 in let b = looks_append r (g ++ w.0) (e ∷ []) in let c = looks_append r g w.0 in let d = same_looks r w.0 [] w.2 in omega arith
