-- Slots that are given home as they were taken.
use Rattle.std.proofs.Common.{◌≡◌, ◌≢◌, ℕ, zero, suc, ◌+◌, ◌%◌, ◌<◌, ◌≤◌, List, [], ◌∷◌, ◌++◌, length, set, take, sym, refl, ap, ◌∙◌, subst, arith, length-set}
use mathlib.Core.Option.{some, none}
use mathlib.Core.Option as maybe
use mathlib.Core.Logic.{dite}
use native.Mathlib.Decide.{ℕ_discrete}
use lib.ListN.{get_elem?}
use Rattle.std.proofs.lemmas.List.{take-append-le}
use Rattle.std.proofs.Common.{length-append}
use Rattle.atomic_table.specs.Table.{carried_after, homes_after, Valid}
use Rattle.atomic_table.proofs.Lists.{set_here, set_else}
use Rattle.ifl_ringcore.specs.declared.history.Step.{Step}
use Rattle.ifl_ringcore.specs.declared.history.Step.TheVariants.{Look, Refuse, Reserve, Behind, Elected, Abdicating, Advance, LeaveIdle, LeaveAbdicated, Stall, TakeOver}
use Rattle.ifl_ringcore.specs.declared.history.Entry.{Entry}
use Rattle.ifl_ringcore.specs.State.{RingState}
use Rattle.ifl_ringcore.specs.History.{state_after}
use Rattle.ifl_ringcore.specs.Effects.{effect}
use Rattle.ifl_ring.specs.Acts.{out_all, give_all}
use Rattle.ifl_ring.proofs.Slots.{apart}

module _ {S : Type 0} (f : ℕ → S) (size : ℕ) where
  pub back_carried : (a n : ℕ) (c : List (ℕ × S)) → carried_after (out_all f size a n c) (give_all n) ≡ c
  back_carried a zero c = refl
  back_carried a (suc n) c = back_carried (a + 1) n c

  pub back_valid : (a n : ℕ) (c : List (ℕ × S)) (hs : List (maybe.Option S)) → Valid hs (out_all f size a n c) (give_all n)
  back_valid a zero c hs = tt
  back_valid a (suc n) c hs = (tt, back_valid (a + 1) n c (set hs (a % size) (some (f a))))

  pub back_long : (a n : ℕ) (c : List (ℕ × S)) (hs : List (maybe.Option S)) → length (homes_after hs (out_all f size a n c) (give_all n)) ≡ length hs
  back_long a zero c hs = refl
  back_long a (suc n) c hs = back_long (a + 1) n c (set hs (a % size) (some (f a))) ∙ length-set hs (a % size) (some (f a))

  pub back_else : (a n i : ℕ) (c : List (ℕ × S)) (hs : List (maybe.Option S)) → ((j : ℕ) → a ≤ j → j < a + n → i ≢ j % size) → get_elem? (homes_after hs (out_all f size a n c) (give_all n)) i ≡ get_elem? hs i
  back_else a zero i c hs away = refl
  back_else a (suc n) i c hs away = back_else (a + 1) n i c (set hs (a % size) (some (f a))) (λ j l h. away j (omega arith) (omega arith)) ∙ set_else hs (a % size) i (some (f a)) (away a (omega arith) (omega arith))

  pub back_here : (a n j : ℕ) (c : List (ℕ × S)) (hs : List (maybe.Option S)) → a ≤ j → j < a + n → n ≤ size → j % size < length hs → get_elem? (homes_after hs (out_all f size a n c) (give_all n)) (j % size) ≡ some (some (f j))
  back_here a zero j c hs l h small near = absurd (omega arith)
  back_here a (suc n) j c hs l h small near = let hs' : List (maybe.Option S) = set hs (a % size) (some (f a)) in dite (ℕ_discrete j a)
      (λ is. back_else (a + 1) n (j % size) c hs' (λ i x z. apart size a j i (omega arith) (omega arith) (omega arith) (omega arith) (λ e. omega arith))
      ∙ (ap (λ (k : ℕ). get_elem? hs' (k % size)) is ∙ (set_here hs (a % size) (some (f a)) (subst (λ (k : ℕ). k % size < length hs) is near) ∙ ap (λ (k : ℕ). some (some (f k))) (sym is))))
      (λ ne. back_here (a + 1) n j c hs' (omega arith) (omega arith) (omega arith) (subst (λ (k : ℕ). j % size < k) (sym (length-set hs (a % size) (some (f a)))) near))

-- an event adds to the items at most
take_effect : (m : ℕ) (st : RingState) (k : ℕ) (e : Step) → m ≤ length st.items → (take m (effect st k e).items ≡ take m st.items) × (length st.items ≤ length (effect st k e).items)
take_effect m st k Look h = (refl, omega arith)
take_effect m st k (Reserve n) h = (refl, omega arith)
take_effect m st k (Behind xs) h = (take-append-le m st.items xs h, omega (arith, length-append st.items xs))
take_effect m st k (Elected b xs) h = (take-append-le m st.items xs h, omega (arith, length-append st.items xs))
take_effect m st k (Advance n) h = (refl, omega arith)
take_effect m st k (LeaveIdle n) h = (refl, omega arith)
take_effect m st k (Refuse n) h = (refl, omega arith)
take_effect m st k (Abdicating xs) h = (take-append-le m st.items xs h, omega (arith, length-append st.items xs))
take_effect m st k (LeaveAbdicated n) h = (refl, omega arith)
take_effect m st k (Stall n) h = (refl, omega arith)
take_effect m st k (TakeOver b) h = (refl, omega arith)

pub take_after : (m : ℕ) (st : RingState) (es : List Entry) → m ≤ length st.items → take m (state_after st es).items ≡ take m st.items
take_after m st [] h = refl
take_after m st (e ∷ es) h = let t = take_effect m st e.seat e.event h in let u = t.1 in take_after m (effect st e.seat e.event) es (omega arith) ∙ t.0

pub after_append : (st : RingState) (xs ys : List Entry) → state_after st (xs ++ ys) ≡ state_after (state_after st xs) ys
after_append st [] ys = refl
after_append st (x ∷ xs) ys = after_append (effect st x.seat x.event) xs ys
