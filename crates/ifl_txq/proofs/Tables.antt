-- The tables of a log.
use Rattle.std.proofs.Common.{◌≡◌, ◌≢◌, ℕ, zero, suc, ◌+◌, ◌<◌, ◌≤◌, ◌⊎◌, inl, inr, ⊎_elim, Bool, true, false, not, ◌&&◌, ◌||◌, ltb, cond, List, [], ◌∷◌, ◌++◌, length, map, take, sum, get_or, sym, refl, ap, ◌∙◌, subst, arith, length-append}
use Rattle.std.proofs.Math.ListN.{set, length-set, get_or-append, replicate}
use Rattle.std.proofs.lemmas.List.{get_or_read}
use Rattle.std.proofs.lemmas.List.{get_or-replicate}
use Rattle.std.proofs.Math.Seq.{get_or-append_seam}
use Rattle.std.proofs.lemmas.List.{get_or-set_same, get_or-set_other, map-append}
use Rattle.std.proofs.lemmas.List.Sums.{sum_by-cons}
use Rattle.std.proofs.lemmas.Bool.Decides.{nat_tests}
use Rattle.std.proofs.lemmas.Bool.{cases_eq}
use Rattle.ifl_base.specs.declared.ticket.Ticket.{Ticket}
use Rattle.ifl_base.specs.declared.fate.Fate.{Fate}
use Rattle.ifl_txq.specs.declared.line.Line.{Line}
use Rattle.ifl_txq.specs.declared.line.OrderLine.{OrderLine}
use Rattle.ifl_txq.specs.Log.{is_same, is_listed, is_noted, noted, open_line, settled, fate_or, AreTold, IsTold, kept}
use Rattle.ifl_txq.specs.declared.tally.Tally.{Tally}
use Rattle.ifl_txq.specs.Tallies.{counted, tally_after}
use Rattle.ifl_txq.specs.Tables.{place_of, filled, IsLog}
use Rattle.ifl_txq.proofs.Lines.{same_tickets}

sum_more : (x : ℕ) (xs : List ℕ) → sum (x ∷ xs) ≡ x + sum xs
sum_more x xs = sum_by-cons (λ (z : ℕ). z) x xs

pub place_below : (counts : List ℕ) (s i : ℕ) → i < get_or counts s 0 → sum (take s counts) + i < sum counts
place_below [] s i h = let t : i < 0 = h in absurd (omega arith)
place_below (x ∷ counts) zero i h = let t : i < x = h in let e = sum_more x counts in let z : sum (take 0 (x ∷ counts)) ≡ 0 = refl in omega arith
place_below (x ∷ counts) (suc s) i h = let r = place_below counts s i h in let e = sum_more x counts in let f : sum (take (suc s) (x ∷ counts)) ≡ x + sum (take s counts) = sum_more x (take s counts) in omega arith

pub place_apart : (counts : List ℕ) (s i r j : ℕ) → i < get_or counts s 0 → j < get_or counts r 0 → sum (take s counts) + i ≡ sum (take r counts) + j → (s ≡ r) × (i ≡ j)
place_apart [] s i r j h k e = let t : i < 0 = h in absurd (omega arith)
place_apart (x ∷ counts) zero i zero j h k e = let u : 0 + i ≡ 0 + j = e in (refl, (omega arith))
place_apart (x ∷ counts) zero i (suc r) j h k e = let t : i < x = h in let u : 0 + i ≡ sum (take (suc r) (x ∷ counts)) + j = e in let f : sum (take (suc r) (x ∷ counts)) ≡ x + sum (take r counts) = sum_more x (take r counts) in absurd (omega arith)
place_apart (x ∷ counts) (suc s) i zero j h k e = let t : j < x = k in let u : sum (take (suc s) (x ∷ counts)) + i ≡ 0 + j = e in let f : sum (take (suc s) (x ∷ counts)) ≡ x + sum (take s counts) = sum_more x (take s counts) in absurd (omega arith)
place_apart (x ∷ counts) (suc s) i (suc r) j h k e =
    let f : sum (take (suc s) (x ∷ counts)) ≡ x + sum (take s counts) = sum_more x (take s counts) in let g : sum (take (suc r) (x ∷ counts)) ≡ x + sum (take r counts) = sum_more x (take r counts) in
    let z = place_apart counts s i r j h k (omega arith) in (ap suc z.0, z.1)

listed_below : (counts : List ℕ) (t : Ticket) → is_listed counts t ≡ true → t.index < get_or counts t.sender 0
listed_below counts t e = grind (arith, nat_tests)

pub same_place : (counts : List ℕ) (t u : Ticket) → is_listed counts t ≡ true → is_listed counts u ≡ true → place_of counts t ≡ place_of counts u → is_same t u ≡ true
same_place counts t u a b e = let z = place_apart counts t.sender t.index u.sender u.index (listed_below counts t a) (listed_below counts u b) e in let x = z.0 in let y = z.1 in grind (arith, nat_tests)

-- a line of the ticket stands at a place
noted_at : (t : Ticket) (ls : List Line) (d : Line) → is_noted t ls ≡ true → (k : ℕ) × (k < length ls) × (is_same (get_or ls k d).ticket t ≡ true)
noted_at t [] d e = absurd (cc)
noted_at t (l ∷ ls) d e = by_test (is_same l.ticket t) refl (λ (r : is_noted t ls ≡ true). noted_at t ls d r)
  where
    by_test : (b : Bool) → is_same l.ticket t ≡ b → (is_noted t ls ≡ true → (k : ℕ) × (k < length ls) × (is_same (get_or ls k d).ticket t ≡ true)) → (k : ℕ) × (k < suc (length ls)) × (is_same (get_or (l ∷ ls) k d).ticket t ≡ true)
    by_test true s r = (0, (omega arith), s)
    by_test false s r = let q = r (let f : (false || is_noted t ls) ≡ true = ap (λ (b : Bool). b || is_noted t ls) (sym s) ∙ e in f) in let lt = q.1 in (suc q.0, (omega arith), q.2)

at_noted : (t : Ticket) (ls : List Line) (d : Line) (k : ℕ) → k < length ls → is_same (get_or ls k d).ticket t ≡ true → is_noted t ls ≡ true
at_noted t [] d k lt e = absurd (omega arith)
at_noted t (l ∷ ls) d zero lt e = ap (λ (b : Bool). b || is_noted t ls) e
at_noted t (l ∷ ls) d (suc k) lt e = by_test (is_same l.ticket t) (at_noted t ls d k (omega arith) e)
  where
    by_test : (b : Bool) → is_noted t ls ≡ true → (b || is_noted t ls) ≡ true
    by_test true r = refl
    by_test false r = r

pub filled_all : (ps : List ℕ) → filled ps ≤ length ps
filled_all [] = omega arith
filled_all (zero ∷ ps) = let r = filled_all ps in omega arith
filled_all (suc p ∷ ps) = let r = filled_all ps in omega arith

pub filled_set : (ps : List ℕ) (j n : ℕ) → j < length ps → get_or ps j 0 ≡ 0 → filled (set ps j (suc n)) ≡ suc (filled ps)
filled_set [] j n lt e = absurd (omega arith)
filled_set (zero ∷ ps) zero n lt e = refl
filled_set (suc p ∷ ps) zero n lt e = let z : suc p ≡ 0 = e in absurd (omega arith)
filled_set (zero ∷ ps) (suc j) n lt e = filled_set ps j n (omega arith) e
filled_set (suc p ∷ ps) (suc j) n lt e = ap suc (filled_set ps j n (omega arith) e)

-- a free place leaves a place for one more line
pub filled_below : (ps : List ℕ) (j : ℕ) → j < length ps → get_or ps j 0 ≡ 0 → filled ps < length ps
filled_below [] j lt e = absurd (omega arith)
filled_below (zero ∷ ps) zero lt e = let f = filled_all ps in omega arith
filled_below (suc p ∷ ps) zero lt e = let z : suc p ≡ 0 = e in absurd (omega arith)
filled_below (zero ∷ ps) (suc j) lt e = let r = filled_below ps j (omega arith) e in omega arith
filled_below (suc p ∷ ps) (suc j) lt e = let r = filled_below ps j (omega arith) e in omega arith

at_end : (k n : ℕ) → k < n + 1 → (k < n) ⊎ (k ≡ n)
at_end zero zero lt = inr refl
at_end zero (suc n) lt = inl (omega arith)
at_end (suc k) zero lt = absurd (omega arith)
at_end (suc k) (suc n) lt = ⊎_elim (λ (b : k < n). inl (omega arith)) (λ (e : k ≡ n). inr (ap suc e)) (at_end k n (omega arith))

any_default : (ls : List Line) (n : ℕ) (d e : Line) → n < length ls → get_or ls n d ≡ get_or ls n e
any_default [] n d e lt = absurd (omega arith)
any_default (l ∷ ls) zero d e lt = refl
any_default (l ∷ ls) (suc n) d e lt = any_default ls n d e (omega arith)

settled_at : (t : Ticket) (f : Fate) (ls : List Line) (n : ℕ) (d y : Line) → n < length ls → is_same (get_or ls n d).ticket t ≡ true → ((k : ℕ) → k < n → is_same (get_or ls k d).ticket t ≡ false)
    → y ≡ record { ticket = (get_or ls n d).ticket; fate = fate_or (get_or ls n d).fate f } → settled t f ls ≡ set ls n y
settled_at t f [] n d y lt e others is = absurd (omega arith)
settled_at t f (l ∷ ls) zero d y lt e others is = ap (λ (b : Bool). cond b (record { ticket = l.ticket; fate = fate_or l.fate f } ∷ ls) (l ∷ settled t f ls)) e ∙ ap (λ (z : Line). z ∷ ls) (sym is)
settled_at t f (l ∷ ls) (suc n) d y lt e others is =
    ap (λ (b : Bool). cond b (record { ticket = l.ticket; fate = fate_or l.fate f } ∷ ls) (l ∷ settled t f ls)) (others 0 (omega arith))
    ∙ ap (λ (z : List Line). l ∷ z) (settled_at t f ls n d y (omega arith) e (λ k b. others (suc k) (omega arith)) is)

pub settled_none : (t : Ticket) (f : Fate) (ls : List Line) → is_noted t ls ≡ false → settled t f ls ≡ ls
settled_none t f [] e = refl
settled_none t f (l ∷ ls) e = by_test (is_same l.ticket t) e (λ (r : is_noted t ls ≡ false). settled_none t f ls r)
  where
    by_test : (b : Bool) → (b || is_noted t ls) ≡ false → (is_noted t ls ≡ false → settled t f ls ≡ ls) → cond b (record { ticket = l.ticket; fate = fate_or l.fate f } ∷ ls) (l ∷ settled t f ls) ≡ l ∷ ls
    by_test true q r = absurd (cc)
    by_test false q r = ap (λ (z : List Line). l ∷ z) (r q)

pub noted_old : (counts : List ℕ) (t : Ticket) (ls : List Line) → is_noted t ls ≡ true → noted counts t ls ≡ ls
noted_old counts t ls e = ap (λ (b : Bool). cond (is_listed counts t && not b) (ls ++ open_line t ∷ []) ls) e ∙ by_test (is_listed counts t)
  where
    by_test : (b : Bool) → cond (b && false) (ls ++ open_line t ∷ []) ls ≡ ls
    by_test true = refl
    by_test false = refl

-- a ticket outside the tables has no line
pub outside_not_noted : (counts places : List ℕ) (lines : List Line) (room : List OrderLine) (c1 c2 : ℕ) → IsLog counts places lines room c1 c2 → (t : Ticket) → is_listed counts t ≡ false → is_noted t lines ≡ false
outside_not_noted counts places lines room c1 c2 g t out = by_test (is_noted t lines) refl
  where
    by_test : (b : Bool) → is_noted t lines ≡ b → b ≡ false
    by_test true n =
        let w = noted_at t lines (open_line t) n in let p = g.placed w.0 (open_line t) w.1 in let s = same_tickets (get_or lines w.0 (open_line t)).ticket t w.2 in
        let q : true ≡ false = sym p.0 ∙ (λ i. ltb (s.1 i) (get_or counts (s.0 i) 0)) ∙ out in absurd (cc)
    by_test false n = refl

filled_none : (n : ℕ) → filled (replicate {A = ℕ} n 0) ≡ 0
filled_none zero = refl
filled_none (suc n) = filled_none n

length_zeros : (n : ℕ) → length {A = ℕ} (replicate n 0) ≡ n
length_zeros zero = refl
length_zeros (suc n) = ap suc (length_zeros n)

pub new_log : (counts places : List ℕ) (lines : List Line) (room : List OrderLine) (c1 c2 n : ℕ) → places ≡ replicate {A = ℕ} n 0 → lines ≡ [] → room ≡ [] → n ≡ sum counts → sum counts ≤ 1000000 → n ≤ c1 → n ≤ c2 → IsLog counts places lines room c1 c2
new_log counts places lines room c1 c2 n ps ls rs ns few k1 k2 = record {
  few = few;
  all = ap length ps ∙ length_zeros n ∙ ns;
  empty = rs;
  lines_fit = omega arith;
  room_fits = omega arith;
  as_many = ap filled ps ∙ filled_none n ∙ ap length (sym ls);
  placed = λ k d b. let l = ap length ls in absurd (omega arith);
  lined = λ i k d b e. let z : 0 ≡ suc k = sym (get_or-replicate n i 0 0 (let l = ap length ps ∙ length_zeros n in omega arith)) ∙ ap (λ (z : List ℕ). get_or z i 0) (sym ps) ∙ e in absurd (omega arith);
}

pub place_ok : (counts : List ℕ) (t : Ticket) (x before : ℕ) → t.sender < length counts → x ≡ get_or counts t.sender x → t.index < x → before ≡ sum (take t.sender counts)
    → (is_listed counts t ≡ true) × (before + t.index ≡ place_of counts t) × (before + t.index < sum counts)
place_ok counts t x before lt read below is =
    let r = get_or_read counts t.sender x lt read 0 in let l : t.index < get_or counts t.sender 0 = omega arith in let b = place_below counts t.sender t.index l in
    (grind (arith, nat_tests), ap (λ (z : ℕ). z + t.index) is, omega arith)

pub some_number : (r : ℕ) → r ≢ 0 → (n : ℕ) × (r ≡ suc n)
some_number zero n = absurd (n refl)
some_number (suc r) n = (r, refl)

module _ (counts places : List ℕ) (lines : List Line) (room : List OrderLine) (c1 c2 : ℕ) (g : IsLog counts places lines room c1 c2) (t : Ticket) (listed : is_listed counts t ≡ true) where
  abbrev j : ℕ
  j = place_of counts t

  pub there : j < length places
  there = let b = place_below counts t.sender t.index (listed_below counts t listed) in let a = g.all in omega arith

  -- a free place has no line
  pub free_not_noted : get_or places j 0 ≡ 0 → is_noted t lines ≡ false
  free_not_noted e = by_test (is_noted t lines) refl
    where
      by_test : (b : Bool) → is_noted t lines ≡ b → b ≡ false
      by_test true n =
          let w = noted_at t lines (open_line t) n in let p = g.placed w.0 (open_line t) w.1 in
          let s = same_tickets (get_or lines w.0 (open_line t)).ticket t w.2 in
          let same : place_of counts (get_or lines w.0 (open_line t)).ticket ≡ j = λ i. sum (take (s.0 i) counts) + s.1 i in
          let q : 0 ≡ suc w.0 = sym e ∙ ap (λ (z : ℕ). get_or places z 0) (sym same) ∙ p.1 in absurd (omega arith)
      by_test false n = refl

  -- a taken place has one
  pub taken_line : (n : ℕ) → get_or places j 0 ≡ suc n → (n < length lines) × (is_same (get_or lines n (open_line t)).ticket t ≡ true)
  taken_line n e = let w = g.lined j n (open_line t) there e in let p = g.placed n (open_line t) w.0 in (w.0, same_place counts (get_or lines n (open_line t)).ticket t p.0 listed w.1)

  pub taken_noted : (n : ℕ) → get_or places j 0 ≡ suc n → is_noted t lines ≡ true
  taken_noted n e = let w = taken_line n e in at_noted t lines (open_line t) n w.0 w.1

  -- a line more
  pub more_room : get_or places j 0 ≡ 0 → length lines < sum counts
  more_room e = let f = filled_below places j there e in let a = g.as_many in let b = g.all in omega arith

  pub more_lines : (d1 d2 : ℕ) → d1 ≡ c1 → d2 ≡ c2 → get_or places j 0 ≡ 0 → IsLog counts (set places j (length (lines ++ open_line t ∷ []))) (lines ++ open_line t ∷ []) room d1 d2
  more_lines d1 d2 e1 e2 free = let n = length-append lines (open_line t ∷ []) in let len : length (lines ++ open_line t ∷ []) ≡ suc (length lines) = omega arith in let k1 = g.lines_fit in let k2 = g.room_fits in let m = g.as_many in
      subst (λ (z : ℕ). IsLog counts (set places j z) (lines ++ open_line t ∷ []) room d1 d2) (sym len) (record {
        few = g.few;
        all = length-set places j (suc (length lines)) ∙ g.all;
        empty = g.empty;
        lines_fit = omega arith;
        room_fits = omega arith;
        as_many = filled_set places j (length lines) there free ∙ ap suc m ∙ sym len;
        placed = placed_more;
        lined = lined_more;
      })
    where
      placed_more : (k : ℕ) (d : Line) → k < length (lines ++ open_line t ∷ []) → (is_listed counts (get_or (lines ++ open_line t ∷ []) k d).ticket ≡ true) × (get_or (set places j (suc (length lines))) (place_of counts (get_or (lines ++ open_line t ∷ []) k d).ticket) 0 ≡ suc k)
      placed_more k d lt = ⊎_elim
          (λ (b : k < length lines). let p = g.placed k d b in let same = get_or-append lines (open_line t ∷ []) d k b in
          let apart : place_of counts (get_or lines k d).ticket ≢ j = λ e. (let q : suc k ≡ 0 = sym p.1 ∙ ap (λ (z : ℕ). get_or places z 0) e ∙ free in omega arith) in
          subst (λ (z : Line). (is_listed counts z.ticket ≡ true) × (get_or (set places j (suc (length lines))) (place_of counts z.ticket) 0 ≡ suc k)) (sym same) (p.0, get_or-set_other places j (place_of counts (get_or lines k d).ticket) (suc (length lines)) 0 apart ∙ p.1))
          (λ (e : k ≡ length lines). subst (λ (x : ℕ). (is_listed counts (get_or (lines ++ open_line t ∷ []) x d).ticket ≡ true) × (get_or (set places j (suc (length lines))) (place_of counts (get_or (lines ++ open_line t ∷ []) x d).ticket) 0 ≡ suc x)) (sym e)
          (subst (λ (z : Line). (is_listed counts z.ticket ≡ true) × (get_or (set places j (suc (length lines))) (place_of counts z.ticket) 0 ≡ suc (length lines))) (sym (get_or-append_seam lines (open_line t) [] d)) (listed, get_or-set_same places j (suc (length lines)) 0 there)))
          (let n = length-append lines (open_line t ∷ []) in at_end k (length lines) (omega arith))

      lined_more : (i n : ℕ) (d : Line) → i < length (set places j (suc (length lines))) → get_or (set places j (suc (length lines))) i 0 ≡ suc n → (n < length (lines ++ open_line t ∷ [])) × (place_of counts (get_or (lines ++ open_line t ∷ []) n d).ticket ≡ i)
      lined_more i n d lt e =
          let l = length-append lines (open_line t ∷ []) in let m = length-set places j (suc (length lines)) in ⊎_elim
          (λ (q : i ≡ j). let same : suc n ≡ suc (length lines) = sym e ∙ ap (λ (z : ℕ). get_or (set places j (suc (length lines))) z 0) q ∙ get_or-set_same places j (suc (length lines)) 0 there in
          let at : n ≡ length lines = omega arith in
          (let h : n < length (lines ++ open_line t ∷ []) = omega arith in h, ap (λ (x : ℕ). place_of counts (get_or (lines ++ open_line t ∷ []) x d).ticket) at ∙ ap (λ (z : Line). place_of counts z.ticket) (get_or-append_seam lines (open_line t) [] d) ∙ sym q))
          (λ (q : i ≢ j). let was : get_or places i 0 ≡ suc n = sym (get_or-set_other places j i (suc (length lines)) 0 q) ∙ e in
          let w = g.lined i n d (omega arith) was in let b = w.0 in
          (let h : n < length (lines ++ open_line t ∷ []) = omega arith in h, ap (λ (z : Line). place_of counts z.ticket) (get_or-append lines (open_line t ∷ []) d n b) ∙ w.1))
          (cases_eq i j)

  -- a line that is settled
  pub settled_line : (n : ℕ) (f : Fate) (y : Line) → get_or places j 0 ≡ suc n → y ≡ record { ticket = (get_or lines n (open_line t)).ticket; fate = fate_or (get_or lines n (open_line t)).fate f } → settled t f lines ≡ set lines n y
  settled_line n f y e is = let w = taken_line n e in settled_at t f lines n (open_line t) y w.0 w.1 (λ k lt. others k lt) is
    where
      others : (k : ℕ) → k < n → is_same (get_or lines k (open_line t)).ticket t ≡ false
      others k lt = by_test (is_same (get_or lines k (open_line t)).ticket t) refl
        where
          by_test : (b : Bool) → is_same (get_or lines k (open_line t)).ticket t ≡ b → b ≡ false
          by_test true q =
              let w = taken_line n e in let v = w.0 in let p = g.placed k (open_line t) (omega arith) in
              let s = same_tickets (get_or lines k (open_line t)).ticket t q in
              let same : place_of counts (get_or lines k (open_line t)).ticket ≡ j = λ i. sum (take (s.0 i) counts) + s.1 i in
              let x : suc k ≡ suc n = sym p.1 ∙ ap (λ (z : ℕ). get_or places z 0) same ∙ e in absurd (omega arith)
          by_test false q = refl

  -- the tables stand where only a fate was set
  pub settled_lines : (n : ℕ) (y : Line) (d1 d2 : ℕ) → d1 ≡ c1 → d2 ≡ c2 → n < length lines → y.ticket ≡ (get_or lines n (open_line t)).ticket → IsLog counts places (set lines n y) room d1 d2
  settled_lines n y d1 d2 e1 e2 lt is = let k1 = g.lines_fit in let k2 = g.room_fits in let m = length-set lines n y in let a = g.as_many in record {
    few = g.few;
    all = g.all;
    empty = g.empty;
    lines_fit = omega arith;
    room_fits = omega arith;
    as_many = omega arith;
    placed = λ k d b. subst (λ (z : Ticket). (is_listed counts z ≡ true) × (get_or places (place_of counts z) 0 ≡ suc k)) (sym (same_ticket k d (omega arith))) (g.placed k d (omega arith));
    lined = λ i k d b e. let w = g.lined i k d b e in let v = w.0 in (let h : k < length (set lines n y) = omega arith in h, ap (place_of counts) (same_ticket k d v) ∙ w.1);
  }
    where
      same_ticket : (k : ℕ) (d : Line) → k < length lines → (get_or (set lines n y) k d).ticket ≡ (get_or lines k d).ticket
      same_ticket k d b = ⊎_elim
          (λ (q : k ≡ n). ap (λ (z : ℕ). (get_or (set lines n y) z d).ticket) q ∙ ap (λ (z : Line). z.ticket) (get_or-set_same lines n y d lt) ∙ is ∙ ap (λ (z : Line). z.ticket) (any_default lines n (open_line t) d lt) ∙ ap (λ (z : ℕ). (get_or lines z d).ticket) (sym q))
          (λ (q : k ≢ n). ap (λ (z : Line). z.ticket) (get_or-set_other lines n k y d q))
          (cases_eq k n)

pub told_at : (ls : List Line) (i : ℕ) (d : Line) → AreTold ls → i < length ls → IsTold (get_or ls i d)
told_at [] i d a lt = absurd (omega arith)
told_at (l ∷ ls) zero d a lt = a.0
told_at (l ∷ ls) (suc i) d a lt = told_at ls i d a.1 (omega arith)

pub take_next : (ls : List Line) (i : ℕ) (d : Line) → i < length ls → take (i + 1) ls ≡ take i ls ++ get_or ls i d ∷ []
take_next ls i d lt = ap (λ (z : ℕ). take z ls) (let g : i + 1 ≡ suc i = omega arith in g) ∙ by_place ls i lt
  where
    by_place : (ls : List Line) (i : ℕ) → i < length ls → take (suc i) ls ≡ take i ls ++ get_or ls i d ∷ []
    by_place [] i lt = absurd (omega arith)
    by_place (l ∷ ls) zero lt = refl
    by_place (l ∷ ls) (suc i) lt = ap (λ (z : List Line). l ∷ z) (by_place ls i (omega arith))

pub kept_next : (room : List OrderLine) (o : OrderLine) (ls : List Line) (i : ℕ) (d : Line) → map kept room ≡ take i ls → i < length ls → kept o ≡ get_or ls i d → map kept (room ++ o ∷ []) ≡ take (i + 1) ls
kept_next room o ls i d e lt is = map-append kept room (o ∷ []) ∙ (λ j. e j ++ is j ∷ []) ∙ sym (take_next ls i d lt)

tally_append : (t : Tally) (xs ys : List Line) → tally_after t (xs ++ ys) ≡ tally_after (tally_after t xs) ys
tally_append t [] ys = refl
tally_append t (x ∷ xs) ys = tally_append (counted t x.fate) xs ys

pub tally_next : (t now next : Tally) (ls : List Line) (i : ℕ) (d : Line) → now ≡ tally_after t (take i ls) → i < length ls → next ≡ counted now (get_or ls i d).fate → next ≡ tally_after t (take (i + 1) ls)
tally_next t now next ls i d e lt is = is ∙ ap (λ (z : Tally). counted z (get_or ls i d).fate) e ∙ sym (tally_append t (take i ls) (get_or ls i d ∷ [])) ∙ ap (tally_after t) (sym (take_next ls i d lt))
