-- The ring at the start.
use Rattle.std.proofs.Common.{◌≡◌, ℕ, zero, suc, ◌+◌, ◌%◌, ◌<◌, ◌≤◌, List, [], ◌∷◌, ◌++◌, length, map, sym, refl, ap, ◌∙◌, subst, inl, arith, length-append, mod-lt, mod-eq_of_lt, replicate}
use Rattle.std.proofs.lemmas.List.{length-replicate}
use Rattle.std.specs.Global.{Box}
use mathlib.Core.Option.{some, none, some-injective, some-ne-none}
use mathlib.Core.Option as maybe
use lib.ListN.{get_elem?}
use Rattle.atomic_table.specs.Table.{opening}
use Rattle.atomic_table.proofs.Lists.{at_map, at_last}
use Rattle.ifl_ringcore.specs.declared.history.Meaning.{Meaning}
use Rattle.ifl_ring.specs.declared.view.View.{View}
use Rattle.ifl_ring.specs.declared.place.Place.{Place}
use Rattle.ifl_ring.specs.declared.place.Outlet.{Outlet}
use Rattle.ifl_ring.specs.declared.place.Place.TheVariants.{Vacant, Post}
use Rattle.ifl_ring.specs.declared.place.Key.{Key}
use Rattle.ifl_ringcore.specs.State.{first_state, ring_word}
use Rattle.ifl_ringcore.specs.Invariant.{RingInvariant}
use Rattle.ifl_base.specs.Word.{pack}
use Rattle.ifl_ring.specs.Acts.{IsOpening}
use Rattle.ifl_ring.specs.Law.{HasRoom, Sits, first_view, Lawful}
use Rattle.ifl_ring.proofs.Seats.{only}

at_replicate : {A : Type 0} (n i : ℕ) (a : A) (ys : List A) → i < n → get_elem? (replicate n a ++ ys) i ≡ some a
at_replicate zero i a ys h = absurd (omega arith)
at_replicate (suc n) zero a ys h = refl
at_replicate (suc n) (suc i) a ys h = at_replicate n i a ys (omega arith)

length_some : {A : Type 0} (xs : List A) → length (map some xs) ≡ length xs
length_some [] = refl
length_some (x ∷ xs) = ap suc (length_some xs)

zero_word : (size : ℕ) → 0 % size ≡ 0 → 0 ≡ pack (ring_word size first_state)
unfolding pack
zero_word size z = omega (arith, z)

one_view : {O : Type 0} (w : View O) (F : ℕ → View O → Type 0) → F 0 w → (j : ℕ) (x : View O) → get_elem? (w ∷ []) j ≡ some x → F j x
one_view w F f zero x e = subst (F 0) (some-injective w x e) f
one_view w F f (suc j) x e = absurd (some-ne-none x (sym e))

module _ {I D O : Type 0} (meaning : I → Meaning) (origin : D → O) (settled full : D → Type 0) (stands_for : D → List Meaning → Type 0) where
  pub opens : (key : Key O) (b : Box (Outlet I D)) → 4 ≤ key.size → b.value.batch.items ≡ [] → HasRoom key.size b.value.batch → settled b.value.drainer → stands_for b.value.drainer [] → origin b.value.drainer ≡ key.origin
      → Lawful meaning origin settled full stands_for key (opening (0 ∷ []) (replicate key.size Vacant ++ Post b ∷ []) (first_view key.origin))
  opens key b big empty room set_ stands made =
      let nothing_ : Place I D = Vacant in let size : ℕ = key.size in let xs : List (Place I D) = replicate size Vacant ++ Post b ∷ [] in let hs : List (maybe.Option (Place I D)) = map some xs in
      let long : length xs ≡ size + 1 = length-append (replicate size Vacant) (Post b ∷ []) ∙ ap (λ (z : ℕ). z + 1) (length-replicate size nothing_) in
      let z : 0 % size ≡ 0 = mod-eq_of_lt (omega arith) in
      let good : RingInvariant size first_state = record { released = omega arith; within = omega arith; covered = refl; once = tt; idle = λ e. refl; waits = λ e. refl; tended = λ e. cc; counted = refl } in
      let me : Sits key.origin [] first_state (λ k. k) 0 (first_view key.origin) = record {
        seen = ([], refl);
        complete = λ a k h. refl;
        rooted = λ a. refl;
        kept = λ k h. sym (only k 0 h);
        named = λ h. (refl, refl);
        unnamed = λ e. absurd cc;
        silent = λ a e. absurd cc;
        spent = λ e. absurd (omega arith);
        born = λ a. refl;
        told = tt;
        apart = tt;
      } in record {
        log = [];
        now = first_state;
        keeper = λ k. k;
        some_size = omega arith;
        is = refl;
        legal = tt;
        good = good;
        word = ap (λ (n : ℕ). n ∷ []) (zero_word size z);
        shelf = record {
          wide = length_some xs ∙ long;
          taken = λ m a b. absurd (omega arith);
          ready = λ m a b. absurd (omega arith);
          held = λ m a b. absurd (omega arith);
          vacant = λ m lo hi. at_map some xs (m % size) Vacant (at_replicate size (m % size) Vacant (Post b ∷ []) (mod-lt m (omega arith)));
          posted = (b, at_map some xs size (Post b) (at_last (replicate size Vacant) (Post b) size (length-replicate size nothing_)), set_, made, stands, empty, room, λ e. absurd cc);
        };
        each = one_view (first_view key.origin) (Sits key.origin [] first_state (λ k. k)) me;
        fresh = λ k out. (refl, refl, refl);
        stood = λ k low. inl refl;
        all_parts = omega arith;
      }

module _ {I D O : Type 0} (meaning : I → Meaning) (origin : D → O) (settled full : D → Type 0) (stands_for : D → List Meaning → Type 0) where
  pub opens_with : (key : Key O) (d : D) (xs : List (Place I D)) → 4 ≤ key.size → IsOpening key.size d xs → settled d → stands_for d [] → origin d ≡ key.origin
      → Lawful meaning origin settled full stands_for key (opening (0 ∷ []) xs (first_view key.origin))
  opens_with key d xs big is set_ stands made = subst (λ (z : List (Place I D)). Lawful meaning origin settled full stands_for key (opening (0 ∷ []) z (first_view key.origin))) (sym is.1) (opens meaning origin settled full stands_for key is.0 big is.3 (is.4, is.5) (subst settled (sym is.2) set_) (subst (λ (z : D). stands_for z []) (sym is.2) stands) (ap origin is.2 ∙ made))

pub replicate_snoc : {A : Type 0} (n : ℕ) (a : A) → replicate n a ++ a ∷ [] ≡ replicate (n + 1) a
replicate_snoc zero a = refl
replicate_snoc {A = A} (suc n) a = ap (λ (z : List A). a ∷ z) (replicate_snoc n a) ∙ ap (λ (k : ℕ). replicate k a) (let e : suc (n + 1) ≡ suc n + 1 = omega arith in e)
