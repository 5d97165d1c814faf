-- What several steps of one call do together, and what they count.
use Rattle.std.proofs.Common.{Bool, true, false, cond, ◌≡◌, ◌≢◌, ℕ, ◌+◌, nat_eq, List, [], ◌∷◌, ◌++◌, append_assoc, append-nil, sym, refl, ap, ◌∙◌, subst, inl, inr, ◌⊎◌, ⊎_elim, arith, not, ◌&&◌, ne_eqb, ◌≤◌}
use Rattle.std.specs.Prelude.{Option, Some, None}
use Rattle.ifl_base.specs.declared.word.Flag.{Flag}
use Rattle.ifl_base.specs.declared.word.Flag.TheVariants.{Idle, Busy, Stalled, Abdicated}
use Rattle.ifl_ringcore.specs.declared.counters.Counters.{Counters}
use Rattle.ifl_ringcore.specs.declared.history.Entry.{Entry}
use Rattle.ifl_ringcore.specs.declared.history.Step.TheVariants.{Look}
use Rattle.ifl_ringcore.specs.Counters.{nothing_counted, plus, rise, restarted, stalled_again, one_if, is_stalled, counters_among}
use Rattle.ifl_ringcore.specs.Effects.{effect}
use Rattle.ifl_ringcore.specs.History.{state_after, own}
use Rattle.ifl_ringcore.specs.State.{RingState, Consumer, Role, role_of, first_state}
use Rattle.ifl_ringcore.proofs.Counting.{plus-assoc, plus-nothing, nothing-plus, counters_among-append}
use Rattle.ifl_ring.specs.declared.view.Known.{Known}
use Rattle.ifl_ring.specs.Calls.{AreLooks, AreOfDrain, IsDrain, IsTotal, parting, released_by, released_in}
use Rattle.ifl_ring.specs.Seats.{has, Has, Made, entry}
use Rattle.ifl_ring.specs.Tally.{tally_of, drain_rise}
use Rattle.ifl_ring.specs.Tells.{Advances, Leaves}
use Rattle.ifl_ring.specs.Trails.{IsLived, IsRelease, Trails}
use Rattle.ifl_ring.proofs.Calls.{head_own, made_went, tail_own, went_on_to}
use Rattle.ifl_ring.proofs.Closing.{append_none, own_append}
use Rattle.ifl_ring.proofs.Leaving.{same_drain}
use Rattle.ifl_ring.proofs.Settling.{is_busy}

pub bool_cases : (b : Bool) → (b ≡ true) ⊎ (b ≡ false)
bool_cases true = inl refl
bool_cases false = inr refl

-- entries of other numbers count nothing
pub counters_among-quiet : (ks : List ℕ) (st : RingState) (ys : List Entry) → ((k : ℕ) → Has k ks → own k ys ≡ []) → counters_among (λ k. has k ks) st ys ≡ nothing_counted
counters_among-quiet ks st [] h = refl
counters_among-quiet ks st (y ∷ ys) h = let next : RingState = effect st y.seat y.event in
    ⊎_elim (λ (t : has y.seat ks ≡ true). head_own y ys (h y.seat t) (counters_among (λ k. has k ks) st (y ∷ ys) ≡ nothing_counted))
    (λ (f : has y.seat ks ≡ false). let e : counters_among (λ k. has k ks) st (y ∷ ys) ≡ plus nothing_counted (counters_among (λ k. has k ks) next ys) = ap (λ (b : Bool). plus (cond b (rise st y.event) nothing_counted) (counters_among (λ k. has k ks) next ys)) f in
    e ∙ nothing-plus (counters_among (λ k. has k ks) next ys) ∙ counters_among-quiet ks next ys (λ k t. tail_own k y ys (h k t)))
    (bool_cases (has y.seat ks))

pub counters_among-skip : (ks : List ℕ) (st : RingState) (xs ys : List Entry) → ((k : ℕ) → Has k ks → own k ys ≡ []) → counters_among (λ k. has k ks) st (xs ++ ys) ≡ counters_among (λ k. has k ks) st xs
counters_among-skip ks st [] ys h = counters_among-quiet ks st ys h
counters_among-skip ks st (x ∷ xs) ys h = ap (plus (cond (has x.seat ks) (rise st x.event) nothing_counted)) (counters_among-skip ks (effect st x.seat x.event) xs ys h)

-- one step counts what it raises in the state that it found
pub trail-made : (size : ℕ) (v : Known) (e : Entry) (w : Known) → Has e.seat v.stands → (m : Made size v e w) → Trails size v (e ∷ []) (rise (state_after first_state (v.seen ++ m.between)) e.event) w
trail-made size v e w mine m = let p : ℕ → Bool = λ k. has k v.stands in let before : List Entry = v.seen ++ m.between in let up : Counters = rise (state_after first_state before) e.event in
    let quiet : (k : ℕ) → Has k v.stands → own k m.between ≡ [] = λ k h. append_none (own k v.seen) (own k m.between) (sym (own_append k v.seen m.between) ∙ m.apart k h) in (
      made_went size v e w mine m,
      ap tally_of m.is ∙ counters_among-append p first_state before e ∙ (λ i. plus (counters_among-skip v.stands first_state v.seen m.between quiet i) (cond (mine i) up nothing_counted)),
    )

pub trail-none : (size : ℕ) (v : Known) → IsLived size v → Trails size v [] nothing_counted v
trail-none size v (legal, good, whole) = (record { is = refl; begins = ([], simp append-nil); made = simp append-nil; mine = tt; whole = whole; legal = legal; good = good }, sym (plus-nothing (tally_of v)))

pub trail-more : (size : ℕ) (u v w : Known) (es fs : List Entry) (x y : Counters) → Trails size u es x v → Trails size v fs y w → Trails size u (es ++ fs) (plus x y) w
trail-more size u v w es fs x y a b = (went_on_to size u v w es fs a.0 b.0, b.1 ∙ ap (λ (z : Counters). plus z y) a.1 ∙ plus-assoc (tally_of u) x y)

-- steps that count nothing, before others
pub trail-after : (size : ℕ) (u v w : Known) (es fs : List Entry) (y : Counters) → Trails size u es nothing_counted v → Trails size v fs y w → Trails size u (es ++ fs) y w
trail-after size u v w es fs y a b = subst (λ (z : Counters). Trails size u (es ++ fs) z w) (nothing-plus y) (trail-more size u v w es fs nothing_counted y a b)

pub lived : (size : ℕ) (v : Known) (es : List Entry) (x : Counters) (w : Known) → Trails size v es x w → IsLived size w
lived size v es x w t = (t.0.legal, t.0.good, t.0.whole)

pub lived-made : (size : ℕ) (v : Known) (e : Entry) (w : Known) → Has e.seat v.stands → Made size v e w → IsLived size w
lived-made size v e w mine m = lived size v (e ∷ []) _ w (trail-made size v e w mine m)

-- looks
pub looks-append : (es fs : List Entry) → AreLooks es → AreLooks fs → AreLooks (es ++ fs)
looks-append [] fs a b = b
looks-append (e ∷ es) fs (is, a) b = (is, looks-append es fs a b)

pub trail-first_look : (size : ℕ) (v w : Known) (n : ℕ) → Has v.number v.stands → Made size v (entry v.number n Look) w → (es : List Entry) × AreLooks es × Trails size v es nothing_counted w
trail-first_look size v w n mine m = let e : Entry = entry v.number n Look in (e ∷ [], (refl, tt), trail-made size v e w mine m)

pub trail-looks : (size : ℕ) (u v w : Known) → (es : List Entry) × AreLooks es × Trails size u es nothing_counted v → (fs : List Entry) × AreLooks fs × Trails size v fs nothing_counted w
    → (gs : List Entry) × AreLooks gs × Trails size u gs nothing_counted w
trail-looks size u v w (es, a, t) (fs, b, s) = (es ++ fs, looks-append es fs a b, trail-after size u v w es fs nothing_counted t s)

pub trail-look : (size : ℕ) (u v w : Known) (es : List Entry) (n : ℕ) → AreLooks es → Trails size u es nothing_counted v → Has v.number v.stands → Made size v (entry v.number n Look) w
    → (fs : List Entry) × AreLooks fs × Trails size u fs nothing_counted w
trail-look size u v w es n quiet t mine m = let e : Entry = entry v.number n Look in
    (es ++ e ∷ [], looks-append es (e ∷ []) quiet (refl, tt), trail-after size u v w es (e ∷ []) nothing_counted t (trail-made size v e w mine m))

-- what a consumer's release counts
rise-parting : (st : RingState) (d : Consumer) (f : Flag) (n : ℕ) → st.consumer ≡ Some d → rise st (parting f n) ≡ drain_rise d.from f (d.total + n)
rise-parting st d Idle n e = ap (λ (o : Option Consumer). record nothing_counted { restarts = one_if (restarted n o) }) e
rise-parting st d Busy n e = refl
rise-parting st d Stalled n e = ap (λ (o : Option Consumer). record nothing_counted { restarts = one_if (restarted n o); stalls = one_if (not (stalled_again n o)) }) e
rise-parting st d Abdicated n e = ap (λ (o : Option Consumer). record nothing_counted { restarts = one_if (restarted n o); abdications = 1 }) e

-- the consumer's release as one step
pub trail-release : (size n x : ℕ) (f : Flag) (v w : Known) (d : Consumer) → Has v.number v.stands → role_of v.number (state_after first_state v.seen) ≡ (None, Some d) → (f ≢ Busy → Leaves size f n v x w) → (f ≡ Busy → Advances size n v x w)
    → Trails size v (entry v.number x (parting f n) ∷ []) (drain_rise d.from f (d.total + n)) w
trail-release size n x f v w d mine role leaves goes_on =
    let made : Made size v (entry v.number x (parting f n)) w = ⊎_elim (λ (e : f ≡ Busy). subst (λ (z : Flag). Made size v (entry v.number x (parting z n)) w) (sym e) (goes_on e).made) (λ (ne : f ≢ Busy). (leaves ne).made) (is_busy f) in
    let st : RingState = state_after first_state (v.seen ++ made.between) in
    let here = same_drain v.number st.consumer d (ap (λ (z : Role). z.1) (made.role ∙ role)) in
    subst (λ (z : Counters). Trails size v (entry v.number x (parting f n) ∷ []) z w) (rise-parting st d f n here.0) (trail-made size v (entry v.number x (parting f n)) w mine made)

pub released_in-append : (es fs : List Entry) → released_in (es ++ fs) ≡ released_in es + released_in fs
released_in-append [] fs = omega arith
released_in-append (e ∷ es) fs = let t = released_in-append es fs in omega arith

released_in-looks : (es : List Entry) → AreLooks es → released_in es ≡ 0
released_in-looks [] q = refl
released_in-looks (e ∷ es) (is, q) = let t = released_in-looks es q in let n : released_by e.event ≡ 0 = ap released_by is in omega arith

released_by-parting : (f : Flag) (n : ℕ) → released_by (parting f n) ≡ n
released_by-parting Idle n = refl
released_by-parting Busy n = refl
released_by-parting Stalled n = refl
released_by-parting Abdicated n = refl

pub released_in-release : (f : Flag) (n : ℕ) (es : List Entry) → IsRelease f n es → released_in es ≡ n
released_in-release f n es r = let a = released_in-append r.looks (r.last ∷ []) in let b = released_in-looks r.looks r.quiet in let c = released_by-parting f n in let d : released_by r.last.event ≡ released_by (parting f n) = ap released_by r.parts in let e : released_in es ≡ released_in (r.looks ++ r.last ∷ []) = ap released_in r.is in omega arith

of_drain-append : (es fs : List Entry) → AreOfDrain es → AreOfDrain fs → AreOfDrain (es ++ fs)
of_drain-append [] fs a b = b
of_drain-append (e ∷ es) fs (is, a) b = (is, of_drain-append es fs a b)

of_drain-looks : (es : List Entry) → AreLooks es → AreOfDrain es
of_drain-looks [] q = tt
of_drain-looks (e ∷ es) (is, q) = (inl is, of_drain-looks es q)

-- a round after which the consumer goes on
pub of_drain-round : (n : ℕ) (es fs : List Entry) → AreOfDrain es → IsRelease Busy n fs → AreOfDrain (es ++ fs)
of_drain-round n es fs a r = of_drain-append es fs a (subst AreOfDrain (sym r.is) (of_drain-append r.looks (r.last ∷ []) (of_drain-looks r.looks r.quiet) (inr (n, r.parts), tt)))

-- a round after which it leaves
pub drain-ends : (f : Flag) (total n : ℕ) (es fs : List Entry) → AreOfDrain es → f ≢ Busy → IsRelease f n fs → IsTotal total (released_in es + n) → IsDrain f total (es ++ fs)
drain-ends f total n es fs a ne r t = record {
  going = es ++ r.looks;
  last = r.last;
  count = n;
  is = ap (λ (z : List Entry). es ++ z) r.is ∙ sym (append_assoc es r.looks (r.last ∷ []));
  goes = of_drain-append es r.looks a (of_drain-looks r.looks r.quiet);
  leaves = r.parts;
  over = ne;
  total_is = subst (IsTotal total) (sym (released_in-append es fs ∙ ap (λ (z : ℕ). released_in es + z) (released_in-release f n fs r))) t;
}

drain_rise-none : (from f : Flag) (total t : ℕ) → nat_eq total 0 ≡ nat_eq t 0 → drain_rise from f total ≡ drain_rise from f t
drain_rise-none from Idle total t e = ap (λ (z : Bool). record nothing_counted { restarts = one_if (is_stalled from && not z) }) e
drain_rise-none from Busy total t e = refl
drain_rise-none from Stalled total t e = ap (λ (z : Bool). record nothing_counted { restarts = one_if (is_stalled from && not z); stalls = one_if (not (is_stalled from && z)) }) e
drain_rise-none from Abdicated total t e = ap (λ (z : Bool). record nothing_counted { restarts = one_if (is_stalled from && not z); abdications = 1 }) e

-- a total that stays at the largest counts the same
pub drain_rise-total : (from f : Flag) (total t : ℕ) → IsTotal total t → drain_rise from f total ≡ drain_rise from f t
drain_rise-total from f total t h = drain_rise-none from f total t (⊎_elim (λ (e : total ≡ t). ap (λ (z : ℕ). nat_eq z 0) e)
    (λ (e : (total ≡ 18446744073709551615) × (18446744073709551615 ≤ t)). let a = e.0 in let b = e.1 in ne_eqb total 0 (λ z. omega arith) ∙ sym (ne_eqb t 0 (λ z. omega arith))) h)
