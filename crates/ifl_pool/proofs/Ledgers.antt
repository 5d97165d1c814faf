-- A look, an event, a split and a join keep the ledger, and tell the pass that makes them what it has to know.
use Rattle.std.proofs.Common.{◌≡◌, ◌≢◌, ℕ, zero, suc, ◌+◌, ◌/◌, ◌<◌, ◌≤◌, false, List, [], ◌∷◌, ◌++◌, length, set, sym, refl, ap, ◌∙◌, subst, ⊎_elim, arith, ne_eqb}
use Rattle.std.specs.Prelude.{sum_by, Bool, true, cond, IsTrue}
use Rattle.std.proofs.Math.Nat.{div-le_self}
use mathlib.Core.Option.{some, some-injective, some-ne-none}
use lib.ListN.{get_elem?}
use Rattle.atomic_table.proofs.Lists.{at_set}
use Rattle.ifl_base.specs.declared.limits.TheConstants.{PART}
use Rattle.ifl_pool.specs.declared.history.Event.{Event}
use Rattle.ifl_pool.specs.declared.history.Entry.{Entry}
use Rattle.ifl_pool.specs.declared.history.Counts.{Counts}
use Rattle.ifl_pool.specs.declared.word.View.{View}
use Rattle.ifl_pool.specs.History.{entry_of, no_counts, counts_after, counts_sum, counts_of, stock_of, IsLegalEvent, IsPoolHistory}
use Rattle.ifl_pool.specs.Passes.{is_one_of, own_counts, IsPass, IsNewTo, AllBear, NoneBears, known_after_look, known_after_event}
use Rattle.ifl_pool.specs.Ledger.{one_if, stands_for, owns, part_of, IsStoodFor, IsViewOf, IsLedger, first_view, view_knowing, view_after_split, view_split_off, view_after_join, spent_view}
use Rattle.ifl_pool.specs.Word.{Looked, Acted}
use Rattle.ifl_pool.proofs.Counting.{prefix_refl, prefix_empty, prefix_more, prefix_whole, counts_from-append_one, own_counts_from-append_own, own_counts_from-append_other, legal_more, AreApart, own_counts_from-append_numbers, own_counts_from-all, own_counts_from-none, none_bears_nothing, none_bears_prefix}
use Rattle.ifl_pool.proofs.Sums.{get_elem?-append_one, sum_by-set_at, sum_by-set_same, at-le-sum_by, two-le-sum_by, sum_by-only, sum_by-le_at}
use Rattle.std.proofs.lemmas.List.Sums.{sum_by_push}
use Rattle.ifl_pool.proofs.Numbers.{one_if-true, true_if, false_if, spare_given, owns-first, owns-split, stands_for-join, owns-spent}

-- ---- the owners of the entries

stood_more : (views : List View) (history : List Entry) (e : Entry) → IsStoodFor views history → 1 ≤ sum_by (stands_for e.pass) views → IsStoodFor views (history ++ e ∷ [])
stood_more views [] e stood last = (last, tt)
stood_more views (x ∷ xs) e stood last = (stood.0, stood_more views xs e stood.1 last)

stood_for_by : (views views' : List View) (history : List Entry) → ((k : ℕ) → sum_by (stands_for k) views ≤ sum_by (stands_for k) views') → IsStoodFor views history → IsStoodFor views' history
stood_for_by views views' [] more stood = tt
stood_for_by views views' (e ∷ es) more stood = (let a = more e.pass in let b = stood.0 in omega arith, stood_for_by views views' es more stood.1)

-- a number for which no pass stands is in no entry
unused : (views : List View) (k : ℕ) → sum_by (stands_for k) views ≡ 0 → (history : List Entry) → IsStoodFor views history → NoneBears (k ∷ []) history
unused views k none [] stood = tt
unused views k none (e ∷ es) stood = (ap (λ (b : Bool). cond b true false) (ne_eqb k e.pass (λ same. absurd (let z : sum_by (stands_for e.pass) views ≡ 0 = ap (λ (j : ℕ). sum_by (stands_for j) views) (sym same) ∙ none in let one = stood.0 in omega arith))), unused views k none es stood.1)

-- ---- the ledger of a new pool

pub ledger_opens : (size : ℕ) → IsLedger size [] (first_view size ∷ [])
ledger_opens size = record {
  legal = tt;
  each = only;
  once = λ k. (let a = owns-first k size in omega arith);
  stood = tt;
  parts = refl;
}
  where
    first : IsViewOf size [] (first_view size)
    first = record { seen = prefix_empty []; heard = prefix_empty []; counts = refl; alive = λ _. (refl, omega arith); spent = λ none. absurd (omega arith) }

    only : (j : ℕ) (u : View) → get_elem? (first_view size ∷ []) j ≡ some u → IsViewOf size [] u
    only zero u at = subst (IsViewOf size []) (some-injective (first_view size) u at) first
    only (suc j) u at = absurd (some-ne-none u (sym at))

module _ (size : ℕ) (history : List Entry) (views : List View) (id : ℕ) (v : View) (at : get_elem? views id ≡ some v) (ledger : IsLedger size history views) where
  mine : IsViewOf size history v
  mine = ledger.each id v at

  -- no other pass stands for a number of this one
  not_theirs : (k j : ℕ) (u : View) → j ≢ id → get_elem? views j ≡ some u → IsTrue (is_one_of v.known.numbers k) → is_one_of u.known.numbers k ≡ false
  not_theirs k j u differ there own = let two = two-le-sum_by (owns k) views id j v u (λ same. differ (sym same)) at there in let once = ledger.once k in
      let one : stands_for k v ≡ 1 = one_if-true (is_one_of v.known.numbers k) own in
      false_if (is_one_of u.known.numbers k) (let z : stands_for k u ≡ 0 = omega arith in z)

  -- the whole pass stands for the numbers of all entries for which some pass stands
  whole_stands : v.known.part ≡ PART → (es : List Entry) → IsStoodFor views es → AllBear v.known.numbers es
  whole_stands whole es stood = all_mine es stood
    where
      nothing : (k : ℕ) (j : ℕ) (u : View) → j ≢ id → get_elem? views j ≡ some u → stands_for k u ≡ 0
      nothing k j u differ there = let two = two-le-sum_by part_of views id j v u (λ same. differ (sym same)) at there in let parts = ledger.parts in
          let none : u.known.part ≡ 0 = omega arith in ap (λ (z : List ℕ). one_if (is_one_of z k)) ((ledger.each j u there).spent none)

      all_mine : (es : List Entry) → IsStoodFor views es → AllBear v.known.numbers es
      all_mine [] stood = tt
      all_mine (e ∷ es) stood = (true_if (is_one_of v.known.numbers e.pass) (let a = sum_by-only (stands_for e.pass) views id v at (nothing e.pass) in let b = stood.0 in omega arith), all_mine es stood.1)

  -- the whole pass has counted the whole history
  whole_counts : v.known.part ≡ PART → counts_of history ≡ v.known.counts
  whole_counts whole = sym (own_counts_from-all no_counts v.known.numbers history (whole_stands whole history ledger.stood)) ∙ mine.counts

  -- a whole pass that has counted all that it has seen has seen all
  pub whole_saw : v.known.part ≡ PART → counts_of v.known.seen ≡ v.known.counts → history ≡ v.known.seen
  whole_saw whole counts = prefix_whole v.known.seen history mine.seen (counts ∙ sym (whole_counts whole))

  -- the pass has seen the whole of a history and counted its events
  module _ (history' : List Entry) (counts : Counts) (legal : IsPoolHistory size history') (counted : own_counts v.known.numbers history' ≡ counts) where
    knowing_keeps : IsStoodFor views history' → ((j : ℕ) (u : View) → j ≢ id → get_elem? views j ≡ some u → IsViewOf size history' u)
        → IsLedger size history' (set views id (view_knowing (record v.known { seen = history'; counts = counts }) v))
    knowing_keeps stood others =
        let w : View = view_knowing (record v.known { seen = history'; counts = counts }) v in
        let new : IsViewOf size history' w = record { seen = prefix_refl history'; heard = prefix_empty history'; counts = counted; alive = mine.alive; spent = mine.spent } in record {
          legal = legal;
          each = λ j u there. ⊎_elim (λ (p : (j ≡ id) × (w ≡ u)). subst (IsViewOf size history') p.1 new) (λ (p : (j ≢ id) × (get_elem? views j ≡ some u)). others j u p.0 p.1) (at_set views id j w u there);
          once = λ k. (let a = sum_by-set_same (owns k) views id v w at refl in let b = ledger.once k in omega arith);
          stood = stood_for_by views (set views id w) history' (λ k. (let a = sum_by-set_same (stands_for k) views id v w at refl in omega arith)) stood;
          parts = sum_by-set_same part_of views id v w at refl ∙ ledger.parts;
        }

    knowing_pass : 0 < v.known.part → IsTrue (is_one_of v.known.numbers v.known.number) → (v.known.part ≡ PART → counts_of history' ≡ counts) → IsStoodFor views history' → IsPass v.size (record v.known { seen = history'; counts = counts })
    knowing_pass alive named whole stood = record {
      alive = alive;
      fits = (let a = at-le-sum_by part_of views id v at in let b = ledger.parts in omega arith);
      named = named;
      legal = subst (λ (z : ℕ). IsPoolHistory z history') (sym (mine.alive alive).0) legal;
      counts = counted;
      whole = whole;
      stands = λ all. whole_stands all history' stood;
    }

  pub look_keeps : IsLedger size history (set views id (view_knowing (known_after_look history v.known) v))
  look_keeps = knowing_keeps history v.known.counts ledger.legal mine.counts ledger.stood (λ j u _ there. ledger.each j u there)

  pub look_tells : 0 < v.known.part → IsTrue (is_one_of v.known.numbers v.known.number) → Looked v (view_knowing (known_after_look history v.known) v)
  look_tells alive named = record {
    is = refl;
    saw = (refl, mine.seen);
    heard = mine.heard;
    pass = knowing_pass history v.known.counts ledger.legal mine.counts alive named whole_counts ledger.stood;
  }

  module _ (event : Event) (named : IsTrue (is_one_of v.known.numbers v.known.number)) (legal : IsLegalEvent size (stock_of size (counts_of history)) event) where
    more_legal : IsPoolHistory size (history ++ entry_of v.known.number event ∷ [])
    more_legal = legal_more size no_counts history (entry_of v.known.number event) ledger.legal legal

    more_counted : own_counts v.known.numbers (history ++ entry_of v.known.number event ∷ []) ≡ counts_after event v.known.counts
    more_counted = own_counts_from-append_own no_counts v.known.numbers history (entry_of v.known.number event) named ∙ ap (counts_after event) mine.counts

    more_stood : IsStoodFor views (history ++ entry_of v.known.number event ∷ [])
    more_stood = let e : Entry = entry_of v.known.number event in
        stood_more views history e ledger.stood (let a = at-le-sum_by (stands_for e.pass) views id v at in let b : stands_for e.pass v ≡ 1 = one_if-true (is_one_of v.known.numbers e.pass) named in omega arith)

    pub event_keeps : IsLedger size (history ++ entry_of v.known.number event ∷ []) (set views id (view_knowing (known_after_event (history ++ entry_of v.known.number event ∷ []) event v.known) v))
    event_keeps = let e : Entry = entry_of v.known.number event in
        knowing_keeps (history ++ e ∷ []) (counts_after event v.known.counts) more_legal more_counted
        more_stood
        (λ j u differ there. let theirs = ledger.each j u there in record {
          seen = prefix_more u.known.seen history e theirs.seen;
          heard = prefix_more u.heard history e theirs.heard;
          counts = own_counts_from-append_other no_counts u.known.numbers history e (not_theirs e.pass j u differ there named) ∙ theirs.counts;
          alive = theirs.alive;
          spent = theirs.spent;
        })

    pub event_tells : 0 < v.known.part → Acted event v (view_knowing (known_after_event (history ++ entry_of v.known.number event ∷ []) event v.known) v)
    event_tells alive = let e : Entry = entry_of v.known.number event in let (between, seen) = mine.seen in record {
      is = refl;
      did = (between, ap (λ (z : List Entry). known_after_event (z ++ e ∷ []) event v.known) (sym seen));
      pass = knowing_pass (history ++ e ∷ []) (counts_after event v.known.counts) more_legal more_counted alive named
          (λ whole. counts_from-append_one no_counts history e ∙ ap (counts_after event) (whole_counts whole)) more_stood;
    }

  -- the number that a split gives away is a spare one, so that no pass stands for it
  unnamed : v.known.number < v.stride → sum_by (stands_for (v.known.number + v.stride)) views ≡ 0
  unnamed small = let k : ℕ = v.known.number + v.stride in let once = ledger.once k in let spare = spare_given v small in
      let below = sum_by-le_at (owns k) (stands_for k) (λ u. omega arith) views id v at in omega arith

  pub spare_tells : 0 < v.known.part → IsNewTo v.known (v.known.number + v.stride)
  spare_tells alive = let k : ℕ = v.known.number + v.stride in let none = unnamed (mine.alive alive).1 in
      let below = at-le-sum_by (stands_for k) views id v at in
      (false_if (is_one_of v.known.numbers k) (let z : stands_for k v ≡ 0 = omega arith in z), none_bears_prefix (k ∷ []) v.known.seen history mine.seen (unused views k none history ledger.stood))

  pub split_keeps : 2 ≤ v.known.part → IsLedger size history (set views id (view_after_split v) ++ view_split_off v ∷ [])
  split_keeps two =
      let a : View = view_after_split v in let b : View = view_split_off v in let vs : List View = set views id a in
      let alive : 0 < v.known.part = omega arith in let (sized, small) = mine.alive alive in
      let half : v.known.part / 2 ≤ v.known.part = div-le_self v.known.part 2 in
      let some_left : 1 ≤ v.known.part / 2 = omega arith in let less : v.known.part / 2 < v.known.part = omega arith in
      let number : ℕ = v.known.number + v.stride in
      let left : IsViewOf size history a = record { seen = mine.seen; heard = mine.heard; counts = mine.counts; alive = λ _. (sized, omega arith); spent = λ none. absurd (omega arith) } in
      let right : IsViewOf size history b = record { seen = prefix_empty history; heard = prefix_empty history; counts = own_counts_from-none no_counts (number ∷ []) history (unused views number (unnamed small) history ledger.stood); alive = λ _. (sized, omega arith); spent = λ none. absurd (omega arith) } in record {
        legal = ledger.legal;
        each = λ j u there. ⊎_elim (λ (q : get_elem? vs j ≡ some u). ⊎_elim (λ (p : (j ≡ id) × (a ≡ u)). subst (IsViewOf size history) p.1 left) (λ (p : (j ≢ id) × (get_elem? views j ≡ some u)). ledger.each j u p.1) (at_set views id j a u q))
            (λ (q : (j ≡ length vs) × (b ≡ u)). subst (IsViewOf size history) q.1 right) (get_elem?-append_one vs b u j there);
        once = λ k. (let x = sum_by_push (owns k) vs b in let y = sum_by-set_at (owns k) views id v a at in let z = owns-split k v small in let o = ledger.once k in omega arith);
        stood = stood_for_by views (vs ++ b ∷ []) history (λ k. (let x = sum_by_push (stands_for k) vs b in let y = sum_by-set_same (stands_for k) views id v a at refl in omega arith)) ledger.stood;
        parts = (let x = sum_by_push part_of vs b in let y = sum_by-set_at part_of views id v a at in let p = ledger.parts in omega arith);
      }

  pub join_keeps : (other : ℕ) (w : View) → 0 < v.known.part → (other ≡ id → ⊥) → get_elem? (set views id (view_after_join v w)) other ≡ some w
      → IsLedger size history (set (set views id (view_after_join v w)) other spent_view)
  join_keeps other w alive two there =
      let b : View = view_after_join v w in let vs : List View = set views id b in let us : List View = set vs other spent_view in
      let here : get_elem? views other ≡ some w = ⊎_elim (λ (p : (other ≡ id) × (b ≡ w)). absurd (two p.0)) (λ (p : (other ≢ id) × (get_elem? views other ≡ some w)). p.1) (at_set views id other b w there) in
      let theirs = ledger.each other w here in
      let pair : (k : ℕ) → owns k v + owns k w ≤ 1 = (λ k. let x = two-le-sum_by (owns k) views id other v w (λ same. two (sym same)) at here in let o = ledger.once k in omega arith) in
      let apart : AreApart v.known.numbers w.known.numbers = (λ k p q. let x : stands_for k v ≡ 1 = one_if-true (is_one_of v.known.numbers k) p in let y : stands_for k w ≡ 1 = one_if-true (is_one_of w.known.numbers k) q in let o = pair k in absurd (omega arith)) in
      let joined : IsViewOf size history b = record {
        seen = mine.seen;
        heard = theirs.seen;
        counts = own_counts_from-append_numbers no_counts no_counts v.known.numbers w.known.numbers history apart ∙ (λ i. counts_sum (mine.counts i) (theirs.counts i));
        alive = λ _. mine.alive alive;
        spent = λ none. absurd (omega arith);
      } in
      let spent : IsViewOf size history spent_view = record { seen = prefix_empty history; heard = prefix_empty history; counts = own_counts_from-none no_counts [] history (none_bears_nothing history); alive = λ some_part. absurd (omega arith); spent = λ _. refl } in record {
        legal = ledger.legal;
        each = λ j u at'. ⊎_elim (λ (p : (j ≡ other) × (spent_view ≡ u)). subst (IsViewOf size history) p.1 spent)
            (λ (p : (j ≢ other) × (get_elem? vs j ≡ some u)). ⊎_elim (λ (q : (j ≡ id) × (b ≡ u)). subst (IsViewOf size history) q.1 joined) (λ (q : (j ≢ id) × (get_elem? views j ≡ some u)). ledger.each j u q.1) (at_set views id j b u p.1)) (at_set vs other j spent_view u at');
        once = λ k. (let x = sum_by-set_at (owns k) views id v b at in let y = sum_by-set_at (owns k) vs other w spent_view there in let s = stands_for-join k v w (pair k) in let g = owns-spent k in let o = ledger.once k in omega arith);
        stood = stood_for_by views us history (λ k. (let x = sum_by-set_at (stands_for k) views id v b at in let y = sum_by-set_at (stands_for k) vs other w spent_view there in let s = stands_for-join k v w (pair k) in omega arith)) ledger.stood;
        parts = (let x = sum_by-set_at part_of views id v b at in let y = sum_by-set_at part_of vs other w spent_view there in let p = ledger.parts in omega arith);
      }
