-- A history with one more entry.
use Rattle.std.proofs.Common.{◌≡◌, ◌≢◌, ℕ, cond, eqb, eq-eqb, ne_eqb, List, [], ◌∷◌, ◌++◌, refl, ap}
use mathlib.Core.Logic.{dite}
use native.Mathlib.Decide.{ℕ_discrete}
use Rattle.ifl_ringcore.specs.declared.history.Entry.{Entry}
use Rattle.ifl_ringcore.specs.State.{RingState, ring_word}
use Rattle.ifl_ringcore.specs.Effects.{effect}
use Rattle.ifl_ringcore.specs.Conditions.{IsAllowed}
use Rattle.ifl_ringcore.specs.History.{state_after, IsLegalHistory, own}
use Rattle.ifl_base.specs.Word.{pack}

pub state_after-append : (st : RingState) (es : List Entry) (e : Entry) → state_after st (es ++ e ∷ []) ≡ effect (state_after st es) e.seat e.event
state_after-append st [] e = refl
state_after-append st (x ∷ xs) e = state_after-append (effect st x.seat x.event) xs e

pub legal-append : (size : ℕ) (st : RingState) (es : List Entry) (e : Entry) → IsLegalHistory size st es → e.found ≡ pack (ring_word size (state_after st es)) → IsAllowed size (state_after st es) e.seat e.event → IsLegalHistory size st (es ++ e ∷ [])
legal-append size st [] e l f m = (f, m, tt)
legal-append size st (x ∷ xs) e l f m = (l.0, l.1, legal-append size (effect st x.seat x.event) xs e l.2 f m)

pub own-append_other : (k : ℕ) (es : List Entry) (e : Entry) → e.seat ≢ k → own k (es ++ e ∷ []) ≡ own k es
own-append_other k [] e ne = rw (ne_eqb e.seat k ne)
own-append_other k (x ∷ xs) e ne = ap (λ (z : List Entry). cond (eqb x.seat k) (x ∷ z) z) (own-append_other k xs e ne)

pub own-append : (k : ℕ) (es : List Entry) (e : Entry) → e.seat ≡ k → own k (es ++ e ∷ []) ≡ own k es ++ e ∷ []
own-append k [] e is = rw (eq-eqb e.seat k is)
own-append k (x ∷ xs) e is = dite (ℕ_discrete x.seat k)
    (λ here. rw (eq-eqb x.seat k here) (ap (λ (z : List Entry). x ∷ z) (own-append k xs e is)))
    (λ other. rw (ne_eqb x.seat k other) (own-append k xs e is))
