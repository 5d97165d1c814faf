-- Each step on the word keeps its rule, and tells what it has to tell.
use Rattle.std.proofs.Common.{◌≡◌, ℕ, zero, suc, ◌+◌, ◌-◌, ◌<◌, ◌≤◌, eqb, List, [], ◌∷◌, ◌++◌, set, get_or, sym, refl, ap, ◌∙◌, subst, arith}
use Rattle.std.specs.Prelude.{IsTrue}
use mathlib.Core.Option.{some, none, some-injective, some-ne-none}
use mathlib.Core.Logic.{dite}
use native.Mathlib.Decide.{ℕ_discrete}
use lib.ListN.{get_elem?}
use prog.Atomic.{either}
use Rattle.atomic_table.specs.Table.{State, Act, step, keeps, Valid, carried_after, stepped, Allows, Splits, Joins, Final, Seen}
use Rattle.atomic_table.proofs.Lists.{exchanged}
use Rattle.ifl_base.specs.declared.limits.TheConstants.{PART}
use Rattle.ifl_pool.specs.declared.history.Event.{Event}
use Rattle.ifl_pool.specs.declared.history.Event.TheVariants.{Take, Give, Empty}
use Rattle.ifl_pool.specs.declared.history.Entry.{Entry}
use Rattle.ifl_pool.specs.declared.word.View.{View}
use Rattle.ifl_pool.specs.History.{entry_of, no_counts, counts_after, counts_of, stock_of, IsLegalEvent}
use Rattle.ifl_pool.specs.Passes.{is_one_of, known_after_look, known_after_event}
use Rattle.ifl_pool.specs.Ledger.{IsLedger, view_knowing, view_after_split, view_split_off, view_after_join, spent_view}
use Rattle.ifl_pool.specs.Word.{IsCount, Looked, Acted, Mine, Found, FindStep, TakeStep, GiveStep, LookStep, SpareStep}
use Rattle.ifl_pool.proofs.Counting.{counts_from-append_one, history_within}
use Rattle.ifl_pool.proofs.Ledgers.{whole_saw, look_keeps, look_tells, event_keeps, event_tells, spare_tells, split_keeps, join_keeps}

-- the only word of a table
word_of : (words : List ℕ) (x : ℕ) → words ≡ x ∷ [] → get_or words 0 0 ≡ x
word_of words x is = ap (λ (z : List ℕ). get_or z 0 0) is

set_word : (words : List ℕ) (x y : ℕ) → words ≡ x ∷ [] → set words 0 y ≡ y ∷ []
set_word words x y is = ap (λ (z : List ℕ). set z 0 y) is

-- a seat may step, and then has a view of which this holds
abbrev Steps : ℕ → State ℕ View → ℕ → Mine → (ℕ → Mine → Type 0) → ℕ → Type 0
Steps size s id me then x = (w : View) × (a : Act ℕ) × Valid s.homes me.1 a × IsCount size (stepped s 0 x id me.1 w a) × then (get_or s.words 0 0) (w, carried_after me.1 a)

module _ (size id : ℕ) (me : Mine) (alive : 0 < me.0.known.part) (named : IsTrue (is_one_of me.0.known.numbers me.0.known.number)) where
  module _ (s : State ℕ View) (rule : IsCount size s) (at : get_elem? s.views id ≡ some me.0) where
    -- an event, by which the word becomes x
    event_step : (event : Event) (x : ℕ) → IsLegalEvent size (stock_of size (counts_of rule.history)) event → x ≡ stock_of size (counts_after event (counts_of rule.history))
        → (w : View) × IsCount size (stepped s 0 x id me.1 w keeps) × Acted event me.0 w
    event_step event x legal is = let e : Entry = entry_of me.0.known.number event in (
      view_knowing (known_after_event (rule.history ++ e ∷ []) event me.0.known) me.0,
      record {
        history = rule.history ++ e ∷ [];
        word = set_word s.words _ x rule.word ∙ ap (λ (z : ℕ). z ∷ []) (is ∙ ap (stock_of size) (sym (counts_from-append_one no_counts rule.history e)));
        ledger = event_keeps size rule.history s.views id me.0 at rule.ledger event named legal;
      },
      event_tells size rule.history s.views id me.0 at rule.ledger event named legal alive,
    )

    look_step : (w : View) × IsCount size (stepped s 0 (get_or s.words 0 0) id me.1 w keeps) × Looked me.0 w
    look_step = (
      view_knowing (known_after_look rule.history me.0.known) me.0,
      record {
        history = rule.history;
        word = set_word s.words _ (get_or s.words 0 0) rule.word ∙ ap (λ (z : ℕ). z ∷ []) (word_of s.words _ rule.word);
        ledger = look_keeps size rule.history s.views id me.0 at rule.ledger;
      },
      look_tells size rule.history s.views id me.0 at rule.ledger alive named,
    )

    -- a step of a take that leaves the word as it is
    find_step : (w : View) × IsCount size (stepped s 0 (get_or s.words 0 0) id me.1 w keeps) × Found me (get_or s.words 0 0) (w, me.1)
    find_step = let x : ℕ = get_or s.words 0 0 in let is : x ≡ stock_of size (counts_of rule.history) = word_of s.words _ rule.word in
        dite (ℕ_discrete x 0)
        (λ empty. let r = event_step Empty x (sym is ∙ empty) is in (r.0, r.1, ((λ _. r.2), (λ some_left. absurd (some_left empty)))))
        (λ some_left. let r = look_step in (r.0, r.1, ((λ empty. absurd (some_left empty)), (λ _. r.2))))

  pub looks : (slots : ℕ) → Allows (IsCount size) slots id me 0 (λ x. x) (LookStep (step slots 0 0 0 none) me)
  looks slots s rule _ at _ = let r = look_step s rule at in (r.0, keeps, tt, r.1, (r.2, refl))

  pub finds : (slots : ℕ) → Allows (IsCount size) slots id me 0 (λ x. x) (FindStep (step slots 0 0 0 none) me)
  finds slots s rule _ at _ = let r = find_step s rule at in (r.0, keeps, tt, r.1, (r.2, refl))

  -- the word goes from x to x - 1
  pub takes : (slots x : ℕ) → 0 < x → Allows (IsCount size) slots id me 0 (λ y. either (eqb y x) (x - 1) y) (TakeStep (step slots 0 x (x - 1) none) me)
  takes slots x some_left s rule _ at _ =
      let then = TakeStep (step slots 0 x (x - 1) none) me in let found : ℕ = get_or s.words 0 0 in
      let is : found ≡ stock_of size (counts_of rule.history) = word_of s.words _ rule.word in
      exchanged found x (x - 1) (Steps size s id me then)
      (λ hit. let stock : stock_of size (counts_of rule.history) ≡ x = sym is ∙ hit in let r = event_step s rule at Take (x - 1) (omega arith) (omega arith) in
      (r.0, keeps, tt, r.1, ((λ _. r.2), (λ miss. absurd {A = Found me found (r.0, me.1)} (miss hit)), refl)))
      (λ miss. let r = find_step s rule at in (r.0, keeps, tt, r.1, ((λ hit. absurd {A = Acted Take me.0 r.0} (miss hit)), (λ _. r.2), refl)))

  -- the word goes from x to x + 1
  pub gives : (slots x : ℕ) → x < size → Allows (IsCount size) slots id me 0 (λ y. either (eqb y x) (x + 1) y) (GiveStep (step slots 0 x (x + 1) none) me)
  gives slots x room s rule _ at _ =
      let then = GiveStep (step slots 0 x (x + 1) none) me in let found : ℕ = get_or s.words 0 0 in
      let is : found ≡ stock_of size (counts_of rule.history) = word_of s.words _ rule.word in
      let (out, _) = history_within size rule.history rule.ledger.legal in
      exchanged found x (x + 1) (Steps size s id me then)
      (λ hit. let stock : stock_of size (counts_of rule.history) ≡ x = sym is ∙ hit in let r = event_step s rule at Give (x + 1) (omega arith) (omega arith) in
      (r.0, keeps, tt, r.1, ((λ _. r.2), (λ miss. absurd {A = Looked me.0 r.0} (miss hit)), refl)))
      (λ miss. let r = look_step s rule at in (r.0, keeps, tt, r.1, ((λ hit. absurd {A = Acted Give me.0 r.0} (miss hit)), (λ _. r.2), refl)))

set_self : {A : Type 0} (xs : List A) (i : ℕ) (x : A) → get_elem? xs i ≡ some x → set xs i x ≡ xs
set_self [] i x at = absurd (some-ne-none x (sym at))
set_self (z ∷ xs) zero x at = ap (λ (w : _). w ∷ xs) (sym (some-injective z x at))
set_self (z ∷ xs) (suc i) x at = ap (λ (ws : List _). z ∷ ws) (set_self xs i x at)

pub spares : (slots size id : ℕ) (me : Mine) → 0 < me.0.known.part → Allows (IsCount size) slots id me 0 (λ x. x) (SpareStep (step slots 0 0 0 none) me)
spares slots size id me alive s rule _ at _ = (
  me.0,
  keeps,
  tt,
  record {
    history = rule.history;
    word = set_word s.words _ (get_or s.words 0 0) rule.word ∙ ap (λ (z : ℕ). z ∷ []) (word_of s.words _ rule.word);
    ledger = subst (IsLedger size rule.history) (sym (set_self s.views id me.0 at)) rule.ledger;
  },
  (refl, spare_tells size rule.history s.views id me.0 at rule.ledger alive),
)

pub splits : (size id : ℕ) (v : View) → 2 ≤ v.known.part → Splits (IsCount size) id v (view_after_split v) (view_split_off v)
splits size id v two s rule at = record { history = rule.history; word = rule.word; ledger = split_keeps size rule.history s.views id v at rule.ledger two }

pub joins : (size id : ℕ) (v : View) (other : ℕ) (w : View) → 0 < v.known.part → Joins (IsCount size) id v other w (view_after_join v w) spent_view
joins size id v other w alive s rule at two there = record { history = rule.history; word = rule.word; ledger = join_keeps size rule.history s.views id v at rule.ledger other w alive two there }

-- the whole pass knows the word
pub last_word : (size id : ℕ) (v : View) (words slots : List ℕ) (x : ℕ) → v.known.part ≡ PART → counts_of v.known.seen ≡ v.known.counts → Final (Seen (IsCount size) id v) words slots → get_elem? words 0 ≡ some x
    → x ≡ stock_of size v.known.counts
last_word size id v words slots x whole counts final first = let (rule, at) = final.1 in
    let all : rule.history ≡ v.known.seen = whole_saw size rule.history final.0.views id v at rule.ledger whole counts in
    let word : words ≡ stock_of size (counts_of rule.history) ∷ [] = sym final.2 ∙ rule.word in
    some-injective x _ (sym first ∙ ap (λ (z : List ℕ). get_elem? z 0) word) ∙ ap (stock_of size) (ap counts_of all ∙ counts)
