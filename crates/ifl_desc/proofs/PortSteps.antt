-- The steps of a port keep its rule.
use Rattle.std.proofs.Common.{◌≡◌, ℕ, ◌+◌, ◌≢◌, ⊎_elim, List, [], ◌∷◌, ◌++◌, map, length, set, get_or, sym, refl, ap, ◌∙◌, subst, arith, append-nil, append_assoc}
use mathlib.Core.Option.{some, none, some-injective, some-ne-none}
use mathlib.Core.List.{IsPrefix}
use lib.ListN.{get_elem?}
use Rattle.std.specs.Prelude.{Option, Some, None}
use Rattle.atomic_table.specs.Table.{step, keeps, opening, Allows, Splits, Joins, Final, Seen}
use Rattle.atomic_table.proofs.Lists.{at_set}
use Rattle.ifl_desc.specs.declared.port.PortState.{PortState}
use Rattle.ifl_desc.specs.declared.port.PortState.TheVariants.{Up, Down, Flush}
use Rattle.ifl_desc.specs.declared.signals.PortEvent.{PortEvent}
use Rattle.ifl_desc.specs.declared.signals.PortEvent.TheVariants.{Set, Found}
use Rattle.ifl_desc.specs.declared.signals.PortRole.{PortRole}
use Rattle.ifl_desc.specs.declared.signals.PortRole.TheVariants.{Whole, Writer, Reader, Both, Spent}
use Rattle.ifl_desc.specs.declared.signals.PortView.{PortView}
use Rattle.ifl_desc.specs.Port.{code_of, MayFollow, last_after, IsLegalAfter, state_of, IsSetting, sets_of, looks_of, found_after, AreFoundAfter, IsPortHistory, LooksFollow, StoresFollow, IsHistoryOf, SetsNext, FindsNext, HasSeen, Sets, Looks, Ported, whole_view, writer_view, reader_view, spent_view, both_ends, stored, found_state}
use Rattle.ifl_desc.proofs.Beginning.{at_end}

last_added : (p s : PortState) (xs : List PortState) → last_after p (xs ++ s ∷ []) ≡ s
last_added p s [] = refl
last_added p s (x ∷ xs) = last_added x s xs

pub legal_added : (p s : PortState) (xs : List PortState) → IsLegalAfter p xs → MayFollow (last_after p xs) s → IsLegalAfter p (xs ++ s ∷ [])
legal_added p s [] l m = (m, tt)
legal_added p s (x ∷ xs) l m = (l.0, legal_added x s xs l.1 m)

state_decoded : (n : ℕ) (s t : PortState) → code_of s ≡ n → code_of t ≡ n → s ≡ t
state_decoded n Up Up e f = refl
state_decoded n Up Down e f = absurd (omega arith)
state_decoded n Up Flush e f = absurd (omega arith)
state_decoded n Down Up e f = absurd (omega arith)
state_decoded n Down Down e f = refl
state_decoded n Down Flush e f = absurd (omega arith)
state_decoded n Flush Up e f = absurd (omega arith)
state_decoded n Flush Down e f = absurd (omega arith)
state_decoded n Flush Flush e f = refl

pub sets_of-append : (xs ys : List PortEvent) → sets_of (xs ++ ys) ≡ sets_of xs ++ sets_of ys
sets_of-append [] ys = refl
sets_of-append (Set s ∷ xs) ys = ap (λ (z : List PortState). s ∷ z) (sets_of-append xs ys)
sets_of-append (Found s ∷ xs) ys = sets_of-append xs ys

pub sets_of-sets : (ss : List PortState) → sets_of (map Set ss) ≡ ss
sets_of-sets [] = refl
sets_of-sets (s ∷ ss) = ap (λ (z : List PortState). s ∷ z) (sets_of-sets ss)

pub sets_of-looks : (ss : List PortState) → sets_of (map Found ss) ≡ []
sets_of-looks [] = refl
sets_of-looks (s ∷ ss) = sets_of-looks ss

looks_of-append : (xs ys : List PortEvent) → looks_of (xs ++ ys) ≡ looks_of xs + looks_of ys
looks_of-append [] ys = omega arith
looks_of-append (Set s ∷ xs) ys = looks_of-append xs ys
looks_of-append (Found s ∷ xs) ys = let i = looks_of-append xs ys in omega arith

looks_of-sets : (ss : List PortState) → looks_of (map Set ss) ≡ 0
looks_of-sets [] = refl
looks_of-sets (s ∷ ss) = looks_of-sets ss

found_after-added : (f : Option PortState) (xs : List PortEvent) (t : PortState) → found_after f (xs ++ Found t ∷ []) ≡ Some t
found_after-added f [] t = refl
found_after-added f (Set s ∷ xs) t = found_after-added f xs t
found_after-added f (Found s ∷ xs) t = found_after-added (Some s) xs t

-- a history with one step more
found_more : (p s : PortState) (xs : List PortEvent) → AreFoundAfter p xs → AreFoundAfter p (xs ++ Set s ∷ [])
found_more p s [] a = tt
found_more p s (Set t ∷ xs) a = found_more t s xs a
found_more p s (Found t ∷ xs) a = (a.0, found_more p s xs a.1)

found_last : (p : PortState) (xs : List PortEvent) → AreFoundAfter p xs → AreFoundAfter p (xs ++ Found (last_after p (sets_of xs)) ∷ [])
found_last p [] a = (refl, tt)
found_last p (Set t ∷ xs) a = found_last t xs a
found_last p (Found t ∷ xs) a = (a.0, found_last p xs a.1)

-- a look found what the last store before it set
pub looked_last : (p t : PortState) (xs ys : List PortEvent) → AreFoundAfter p (xs ++ Found t ∷ ys) → t ≡ last_after p (sets_of xs)
looked_last p t [] ys a = a.0
looked_last p t (Set s ∷ xs) ys a = looked_last s t xs ys a
looked_last p t (Found s ∷ xs) ys a = looked_last p t xs ys a.1

history_set : (xs : List PortEvent) (s : PortState) → IsPortHistory xs → MayFollow (state_of (sets_of xs)) s → IsPortHistory (xs ++ Set s ∷ [])
history_set xs s h m = (subst IsSetting (sym (sets_of-append xs (Set s ∷ []))) (legal_added Up s (sets_of xs) h.0 m), found_more Up s xs h.1)

sets_found : (xs : List PortEvent) (t : PortState) → sets_of (xs ++ Found t ∷ []) ≡ sets_of xs
sets_found xs t = sets_of-append xs (Found t ∷ []) ∙ append-nil (sets_of xs)

history_found : (xs : List PortEvent) → IsPortHistory xs → IsPortHistory (xs ++ Found (state_of (sets_of xs)) ∷ [])
history_found xs h = (subst IsSetting (sym (sets_found xs (state_of (sets_of xs)))) h.0, found_last Up xs h.1)

-- what a store and a look make of what an end knows
pub sets_next : (old : List PortEvent) (s : PortState) (new : List PortEvent) → SetsNext old s new → sets_of new ≡ sets_of old ++ s ∷ []
sets_next old s new n = ap sets_of n.1 ∙ sets_of-append (old ++ map Found n.0) (Set s ∷ []) ∙ ap (λ (z : List PortState). z ++ s ∷ []) (sets_of-append old (map Found n.0) ∙ ap (λ (z : List PortState). sets_of old ++ z) (sets_of-looks n.0) ∙ append-nil (sets_of old))

pub finds_next : (old : List PortEvent) (t : PortState) (new : List PortEvent) → FindsNext old t new → IsPortHistory new
    → (t ≡ state_of (sets_of new)) × IsPrefix (sets_of old) (sets_of new) × (looks_of new ≡ looks_of old + 1) × (found_after None new ≡ Some t)
finds_next old t new n h =
    let before : List PortEvent = old ++ map Set n.0 in
    let same : sets_of new ≡ sets_of before = ap sets_of n.1 ∙ sets_found before t in
    let more : sets_of before ≡ sets_of old ++ n.0 = sets_of-append old (map Set n.0) ∙ ap (λ (z : List PortState). sets_of old ++ z) (sets_of-sets n.0) in (
      looked_last Up t before [] (subst (AreFoundAfter Up) n.1 h.1) ∙ ap state_of (sym same),
      (n.0, sym (same ∙ more)),
      (let a = ap looks_of n.1 ∙ looks_of-append before (Found t ∷ []) in let b = looks_of-append old (map Set n.0) in let c = looks_of-sets n.0 in omega arith),
      ap (found_after None) n.1 ∙ found_after-added None before t,
    )

-- what an end has seen stays a beginning where the other end steps
more_sets : (seen log : List PortEvent) (s : PortState) → StoresFollow seen log → StoresFollow seen (log ++ Set s ∷ [])
more_sets seen log s h = (h.0 ++ s ∷ [], ap (λ (z : List PortEvent). z ++ Set s ∷ []) h.1 ∙ append_assoc seen (map Set h.0) (Set s ∷ []) ∙ ap (λ (z : List PortEvent). seen ++ z) (sym (map_more h.0)))
  where
    map_more : (ss : List PortState) → map Set (ss ++ s ∷ []) ≡ map Set ss ++ Set s ∷ []
    map_more [] = refl
    map_more (x ∷ ss) = ap (λ (z : List PortEvent). Set x ∷ z) (map_more ss)

more_looks : (seen log : List PortEvent) (s : PortState) → LooksFollow seen log → LooksFollow seen (log ++ Found s ∷ [])
more_looks seen log s h = (h.0 ++ s ∷ [], ap (λ (z : List PortEvent). z ++ Found s ∷ []) h.1 ∙ append_assoc seen (map Found h.0) (Found s ∷ []) ∙ ap (λ (z : List PortEvent). seen ++ z) (sym (map_more h.0)))
  where
    map_more : (ss : List PortState) → map Found (ss ++ s ∷ []) ≡ map Found ss ++ Found s ∷ []
    map_more [] = refl
    map_more (x ∷ ss) = ap (λ (z : List PortEvent). Found x ∷ z) (map_more ss)

whole_set : (role : PortRole) (log seen heard : List PortEvent) (s : PortState) → (Sets role → ⊥) → HasSeen log role seen heard → HasSeen (log ++ Set s ∷ []) role seen heard
whole_set Whole log seen heard s n k = absurd (n tt)
whole_set Writer log seen heard s n k = absurd (n tt)
whole_set Reader log seen heard s n k = more_sets seen log s k
whole_set Both log seen heard s n k = absurd (n tt)
whole_set Spent log seen heard s n k = tt

whole_found : (role : PortRole) (log seen heard : List PortEvent) (s : PortState) → (Looks role → ⊥) → HasSeen log role seen heard → HasSeen (log ++ Found s ∷ []) role seen heard
whole_found Whole log seen heard s n k = absurd (n tt)
whole_found Writer log seen heard s n k = more_looks seen log s k
whole_found Reader log seen heard s n k = absurd (n tt)
whole_found Both log seen heard s n k = absurd (n tt)
whole_found Spent log seen heard s n k = tt

set_word : (ws : List ℕ) (a b : ℕ) → ws ≡ a ∷ [] → set ws 0 b ≡ b ∷ []
set_word ws a b e = ap (λ (z : List ℕ). set z 0 b) e

same_word : (ws : List ℕ) (a : ℕ) → ws ≡ a ∷ [] → set ws 0 (get_or ws 0 0) ≡ a ∷ []
same_word ws a e = ap (λ (z : List ℕ). set z 0 (get_or z 0 0)) e

-- the view says that it has seen what the role asks for
abbrev Fits : List PortEvent → PortView → Type 0
Fits log v = HasSeen log v.role v.seen v.heard

pub opens : Ported (opening (0 ∷ []) [] whole_view)
opens = record {
  log = [];
  writer = 0;
  reader = 0;
  word = refl;
  history = (tt, tt);
  each = λ j v e. subst (Fits []) (here j v e).1 refl;
  sets = λ j v e a. (here j v e).0;
  looks = λ j v e a. (here j v e).0;
}
  where
    here : (j : ℕ) (v : PortView) → get_elem? (whole_view ∷ []) j ≡ some v → (j ≡ 0) × (whole_view ≡ v)
    here j v e = ⊎_elim (λ (h : get_elem? [] j ≡ some v). absurd (some-ne-none v (sym h))) (λ (h : (j ≡ 0) × (whole_view ≡ v)). h) (at_end [] whole_view v j e)

pub divides : (id : ℕ) → Splits Ported id whole_view (writer_view []) (reader_view [])
divides id s t at =
    let empty : t.log ≡ [] = t.each id whole_view at in
    let w : PortView = writer_view [] in
    let r : PortView = reader_view [] in
    let vs : List PortView = set s.views id w in
    record {
      log = t.log;
      writer = id;
      reader = length vs;
      word = t.word;
      history = t.history;
      each = λ j v e. ⊎_elim
          (λ (h : get_elem? vs j ≡ some v). ⊎_elim (λ (p : (j ≡ id) × (w ≡ v)). subst (Fits t.log) p.1 ([], empty)) (λ (p : (j ≢ id) × (get_elem? s.views j ≡ some v)). t.each j v p.1) (at_set s.views id j w v h))
          (λ (h : (j ≡ length vs) × (r ≡ v)). subst (Fits t.log) h.1 ([], empty)) (at_end vs r v j e);
      sets = λ j v e a. ⊎_elim
          (λ (h : get_elem? vs j ≡ some v). ⊎_elim (λ (p : (j ≡ id) × (w ≡ v)). p.0) (λ (p : (j ≢ id) × (get_elem? s.views j ≡ some v)). t.sets j v p.1 a ∙ sym (t.sets id whole_view at tt)) (at_set s.views id j w v h))
          (λ (h : (j ≡ length vs) × (r ≡ v)). absurd (subst (λ (z : PortView). Sets z.role) (sym h.1) a)) (at_end vs r v j e);
      looks = λ j v e a. ⊎_elim
          (λ (h : get_elem? vs j ≡ some v). ⊎_elim (λ (p : (j ≡ id) × (w ≡ v)). absurd (subst (λ (z : PortView). Looks z.role) (sym p.1) a))
          (λ (p : (j ≢ id) × (get_elem? s.views j ≡ some v)). absurd (p.0 (t.looks j v p.1 a ∙ sym (t.looks id whole_view at tt)))) (at_set s.views id j w v h))
          (λ (h : (j ≡ length vs) × (r ≡ v)). h.0) (at_end vs r v j e);
    }

pub stores : (slots id new : ℕ) (seen : List PortEvent) (s0 : PortState) → code_of s0 ≡ new → MayFollow (state_of (sets_of seen)) s0
    → Allows Ported slots id (writer_view seen, []) 0 (λ _. new) (λ _. stored (step slots 0 new 0 none) (writer_view seen, []) 0)
stores slots id new seen s0 code may s t size at bound =
    let v : PortView = writer_view seen in
    let is : LooksFollow seen t.log = t.each id v at in
    let same : sets_of t.log ≡ sets_of seen = ap sets_of is.1 ∙ sets_of-append seen (map Found is.0) ∙ ap (λ (z : List PortState). sets_of seen ++ z) (sets_of-looks is.0) ∙ append-nil (sets_of seen) in
    let log : List PortEvent = t.log ++ Set s0 ∷ [] in
    let w : PortView = writer_view log in
    let history : IsPortHistory log = history_set t.log s0 t.history (subst (λ (z : List PortState). MayFollow (state_of z) s0) (sym same) may) in
    let last : state_of (sets_of log) ≡ s0 = ap state_of (sets_of-append t.log (Set s0 ∷ [])) ∙ last_added Up s0 (sets_of t.log) in (
      w,
      keeps,
      tt,
      record {
        log = log;
        writer = t.writer;
        reader = t.reader;
        word = set_word s.words (code_of (state_of (sets_of t.log))) new t.word ∙ (λ i. (sym code ∙ ap code_of (sym last)) i ∷ []);
        history = history;
        each = λ j x e. ⊎_elim (λ (p : (j ≡ id) × (w ≡ x)). subst (Fits log) p.1 ([], sym (append-nil log)))
            (λ (p : (j ≢ id) × (get_elem? s.views j ≡ some x)). whole_set x.role t.log x.seen x.heard s0 (λ a. p.0 (t.sets j x p.1 a ∙ sym (t.sets id v at tt))) (t.each j x p.1)) (at_set s.views id j w x e);
        sets = λ j x e a. ⊎_elim (λ (p : (j ≡ id) × (w ≡ x)). p.0 ∙ t.sets id v at tt) (λ (p : (j ≢ id) × (get_elem? s.views j ≡ some x)). t.sets j x p.1 a) (at_set s.views id j w x e);
        looks = λ j x e a. ⊎_elim (λ (p : (j ≡ id) × (w ≡ x)). absurd (subst (λ (z : PortView). Looks z.role) (sym p.1) a)) (λ (p : (j ≢ id) × (get_elem? s.views j ≡ some x)). t.looks j x p.1 a) (at_set s.views id j w x e);
      },
      (λ u e. let one : s0 ≡ u = state_decoded new s0 u code e in ((is.0, ap (λ (z : List PortEvent). z ++ Set s0 ∷ []) is.1 ∙ ap (λ (z : PortState). (seen ++ map Found is.0) ++ Set z ∷ []) one), history, refl)),
    )

pub finds : (slots id : ℕ) (seen : List PortEvent) → Allows Ported slots id (reader_view seen, []) 0 (λ n. n) (found_state (step slots 0 0 0 none) (reader_view seen, []))
finds slots id seen s t size at bound =
    let v : PortView = reader_view seen in
    let k : StoresFollow seen t.log = t.each id v at in
    let now : PortState = state_of (sets_of t.log) in
    let log : List PortEvent = t.log ++ Found now ∷ [] in
    let w : PortView = reader_view log in
    let history : IsPortHistory log = history_found t.log t.history in (
      w,
      keeps,
      tt,
      record {
        log = log;
        writer = t.writer;
        reader = t.reader;
        word = same_word s.words (code_of now) t.word ∙ (λ i. code_of (state_of (sym (sets_found t.log now) i)) ∷ []);
        history = history;
        each = λ j x e. ⊎_elim (λ (p : (j ≡ id) × (w ≡ x)). subst (Fits log) p.1 ([], sym (append-nil log)))
            (λ (p : (j ≢ id) × (get_elem? s.views j ≡ some x)). whole_found x.role t.log x.seen x.heard now (λ a. p.0 (t.looks j x p.1 a ∙ sym (t.looks id v at tt))) (t.each j x p.1)) (at_set s.views id j w x e);
        sets = λ j x e a. ⊎_elim (λ (p : (j ≡ id) × (w ≡ x)). absurd (subst (λ (z : PortView). Sets z.role) (sym p.1) a)) (λ (p : (j ≢ id) × (get_elem? s.views j ≡ some x)). t.sets j x p.1 a) (at_set s.views id j w x e);
        looks = λ j x e a. ⊎_elim (λ (p : (j ≡ id) × (w ≡ x)). p.0 ∙ t.looks id v at tt) (λ (p : (j ≢ id) × (get_elem? s.views j ≡ some x)). t.looks j x p.1 a) (at_set s.views id j w x e);
      },
      (now, ap (λ (z : List ℕ). get_or z 0 0) t.word, (k.0, ap (λ (z : List PortEvent). z ++ Found now ∷ []) k.1), history, refl),
    )

pub shuts : (id : ℕ) (seen : List PortEvent) (other : ℕ) (w : PortView) → w.role ≡ Reader → Joins Ported id (writer_view seen) other w (both_ends (writer_view seen) w) spent_view
shuts id seen other w role s t at two at' =
    let v : PortView = writer_view seen in
    let u : PortView = both_ends v w in
    let vs : List PortView = set s.views id u in
    let here : get_elem? s.views other ≡ some w = ⊎_elim (λ (p : (other ≡ id) × (u ≡ w)). absurd (two p.0)) (λ (p : (other ≢ id) × (get_elem? s.views other ≡ some w)). p.1) (at_set s.views id other u w at') in
    let shown : StoresFollow w.seen t.log = subst (λ (z : PortRole). HasSeen t.log z w.seen w.heard) role (t.each other w here) in
    let reads : other ≡ t.reader = t.looks other w here (subst Looks (sym role) tt) in
    record {
      log = t.log;
      writer = t.writer;
      reader = id;
      word = t.word;
      history = t.history;
      each = λ j x e. ⊎_elim (λ (p : (j ≡ other) × (spent_view ≡ x)). subst (Fits t.log) p.1 tt)
          (λ (p : (j ≢ other) × (get_elem? vs j ≡ some x)). ⊎_elim (λ (q : (j ≡ id) × (u ≡ x)). subst (Fits t.log) q.1 (t.each id v at, shown)) (λ (q : (j ≢ id) × (get_elem? s.views j ≡ some x)). t.each j x q.1) (at_set s.views id j u x p.1)) (at_set vs other j spent_view x e);
      sets = λ j x e a. ⊎_elim (λ (p : (j ≡ other) × (spent_view ≡ x)). absurd (subst (λ (z : PortView). Sets z.role) (sym p.1) a))
          (λ (p : (j ≢ other) × (get_elem? vs j ≡ some x)). ⊎_elim (λ (q : (j ≡ id) × (u ≡ x)). q.0 ∙ t.sets id v at tt) (λ (q : (j ≢ id) × (get_elem? s.views j ≡ some x)). t.sets j x q.1 a) (at_set s.views id j u x p.1)) (at_set vs other j spent_view x e);
      looks = λ j x e a. ⊎_elim (λ (p : (j ≡ other) × (spent_view ≡ x)). absurd (subst (λ (z : PortView). Looks z.role) (sym p.1) a))
          (λ (p : (j ≢ other) × (get_elem? vs j ≡ some x)). ⊎_elim (λ (q : (j ≡ id) × (u ≡ x)). q.0) (λ (q : (j ≢ id) × (get_elem? s.views j ≡ some x)). absurd (p.0 (t.looks j x q.1 a ∙ sym reads))) (at_set s.views id j u x p.1)) (at_set vs other j spent_view x e);
    }

-- what the last word and the two ends tell
pub closed : (id : ℕ) (seen heard : List PortEvent) (n : ℕ) (u : PortView) (words slots : List ℕ) → u ≡ record { role = Both; seen = seen; heard = heard } → Final (Seen Ported id u) words slots → get_elem? words 0 ≡ some n
    → (n ≡ code_of (state_of (sets_of seen))) × IsPrefix (sets_of heard) (sets_of seen) × IsSetting (sets_of seen) × ((log : List PortEvent) × IsHistoryOf seen heard log)
closed id seen heard n u words slots view f at =
    let t = f.1.0 in
    let is : LooksFollow seen t.log × StoresFollow heard t.log = subst (Fits t.log) view (t.each id u f.1.1) in
    let sets : sets_of t.log ≡ sets_of seen = ap sets_of is.0.1 ∙ sets_of-append seen (map Found is.0.0) ∙ ap (λ (z : List PortState). sets_of seen ++ z) (sets_of-looks is.0.0) ∙ append-nil (sets_of seen) in
    let more : sets_of t.log ≡ sets_of heard ++ is.1.0 = ap sets_of is.1.1 ∙ sets_of-append heard (map Set is.1.0) ∙ ap (λ (z : List PortState). sets_of heard ++ z) (sets_of-sets is.1.0) in
    let m : ℕ = code_of (state_of (sets_of t.log)) in
    let w : words ≡ m ∷ [] = sym f.2 ∙ t.word in (
      sym (some-injective m n (sym (ap (λ (z : List ℕ). get_elem? z 0) w) ∙ at)) ∙ ap (λ (z : List PortState). code_of (state_of z)) sets,
      (is.1.0, sym more ∙ sets),
      subst IsSetting sets t.history.0,
      (t.log, record { history = t.history; by_writer = is.0; by_reader = is.1 }),
    )
