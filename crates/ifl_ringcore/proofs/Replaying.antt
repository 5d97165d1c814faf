-- A schedule, replayed event by event.
use Rattle.std.proofs.Common.{◌≡◌, ℕ, zero, suc, ◌+◌, ◌<◌, ◌≤◌, true, false, List, [], ◌∷◌, ◌++◌, length, drop, get_or, replicate, sym, refl, ap, ◌∙◌, subst, arith, length-append, drop-cons, add-one}
use Rattle.std.specs.Prelude.{Option, Some, None}
use mathlib.Core.List.{append_assoc}
use Rattle.std.proofs.lemmas.List.{append-nil, length-replicate}
use Rattle.std.specs.Option.{is_none}
use Rattle.ifl_base.specs.declared.word.RingWord.{RingWord}
use Rattle.ifl_ringcore.specs.declared.event.Event.TheVariants.{Look}
use Rattle.ifl_ringcore.specs.declared.history.Meaning.{Meaning}
use Rattle.ifl_ringcore.specs.declared.event.Event.{Event}
use Rattle.ifl_ringcore.specs.declared.history.Entry.{Entry}
use Rattle.ifl_ringcore.specs.declared.illegal.Illegal.{Illegal}
use Rattle.ifl_ringcore.specs.declared.schedule.Schedule.{Schedule}
use Rattle.ifl_ringcore.specs.Counters.{counters_of, nothing_counted, plus, capped, rise}
use Rattle.ifl_ringcore.specs.Effects.{effect}
use Rattle.ifl_ringcore.specs.Events.{seat_of, step_of, items_of}
use Rattle.ifl_ringcore.specs.History.{state_after, IsLegalHistory, AreSeatsBelow}
use Rattle.ifl_ringcore.specs.Invariant.{RingInvariant}
use Rattle.ifl_ringcore.specs.Kept.{Kept, StandsFor}
use Rattle.ifl_ringcore.specs.State.{RingState, first_state, ring_word}
use Rattle.ifl_ringcore.specs.Table.{sight_of, conditions, first_failing}
use Rattle.ifl_ringcore.specs.Texts.{word_line, counters_line, fault_line, condition_name}
use Rattle.ifl_ringcore.specs.Trace.{Replay, replay, replayed, replay_of, entry_in, step_in, nameless, words_of, trace_text, trace_text_of, is_legal}
use Rattle.ifl_ringcore.specs.Replayed.{prefixed, Replayed}
use Rattle.ifl_ringcore.proofs.Counting.{counters_among-append, capped-plus}
use Rattle.ifl_ringcore.proofs.Deciding.{all_hold, allowed, is_seat}
use Rattle.ifl_ringcore.proofs.Keeping.{invariant-effect}
use Rattle.ifl_ringcore.proofs.Histories.{state_after-append}

drop-all : (n : ℕ) (xs : List Event) → length xs ≤ n → drop n xs ≡ []
drop-all zero [] h = refl
drop-all (suc n) [] h = refl
drop-all zero (x ∷ xs) h = absurd (omega arith)
drop-all (suc n) (x ∷ xs) h = drop-all n xs (omega arith)

words_of-append : (size : ℕ) (st : RingState) (es : List Entry) (e : Entry)
    → words_of size st (es ++ e ∷ []) ≡ words_of size st es ++ word_line (ring_word size (effect (state_after st es) e.seat e.event))
words_of-append size st [] e = append-nil (word_line (ring_word size (effect st e.seat e.event)))
words_of-append size st (x ∷ xs) e = let next = effect st x.seat x.event in
    ap (λ (z : List ℕ). word_line (ring_word size next) ++ z) (words_of-append size next xs e)
    ∙ sym (append_assoc (word_line (ring_word size next)) (words_of size next xs) (word_line (ring_word size (effect (state_after next xs) e.seat e.event))))

-- what a replay comes to once so much of it is known
pub replay_of-known : (s : Schedule) (es : List Entry) (r : Replay) → replay_of s ≡ prefixed es r → (trace_text s ≡ trace_text_of s.size (prefixed es r)) × (is_legal s ≡ is_none r.1)
replay_of-known s es r e = (ap (trace_text_of s.size) e, ap (λ (z : Replay). is_none z.1) e)

pub replayed-init : (s : Schedule) (m : Kept) (out : List ℕ) → StandsFor m first_state → m.size ≡ s.size → m.seats ≡ s.seats → m.counters ≡ nothing_counted → out ≡ [] → Replayed s 0 m out
unfolding replay_of
replayed-init s m out f a b k o = record {
  history = [];
  stands = f;
  size = a;
  seats = b;
  counted = k;
  many = refl;
  printed = o;
  rest = refl;
}

-- the next event's conditions, as the machine decided them
decided : (s : Schedule) (m : Kept) (st : RingState) (e : Event) (r : Option Illegal) → m.size ≡ s.size → m.seats ≡ s.seats
    → r ≡ first_failing (conditions (sight_of m.size m.seats st (seat_of e)) e) → first_failing (conditions (sight_of s.size s.seats st (seat_of e)) e) ≡ r
decided s m st e r a b is = sym (is ∙ (λ i. first_failing (conditions (sight_of (a i) (b i) st (seat_of e)) e)))

pub replayed-more : (s : Schedule) (done : ℕ) (m new : Kept) (out more : List ℕ) (es : List Event) (e : Event) (w : RingWord)
    → Replayed s done m out → es ≡ s.events → done < length es → e ≡ get_or es done (Look 0)
    → ((st : RingState) → StandsFor m st → None ≡ first_failing (conditions (sight_of m.size m.seats st (seat_of e)) e))
    → ((st : RingState) (items : List Meaning) → StandsFor m st → length items ≡ items_of st e → StandsFor new (effect st (seat_of e) (step_of items e)))
    → ((st : RingState) (items : List Meaning) → StandsFor m st → length items ≡ items_of st e → new.counters ≡ capped (plus m.counters (rise st (step_of items e))))
    → (new.size ≡ m.size) × (new.seats ≡ m.seats) → w ≡ new.word → more ≡ out ++ word_line w → Replayed s (done + 1) new more
replayed-more s done m new out more es e w r same lt at decides made counted keeps word printed =
    let st = state_after first_state r.history in let items = replicate (items_of st e) nameless in
    let entry = entry_in s.size st e in let next = effect st (seat_of e) (step_in st e) in let history = r.history ++ entry ∷ [] in
    let many : length items ≡ items_of st e = length-replicate (items_of st e) nameless in
    let reached : state_after first_state history ≡ next = state_after-append first_state r.history entry in
    let size : new.size ≡ s.size = keeps.0 ∙ r.size in
    let stands = made st items r.stands many in
    let behind : drop done s.events ≡ e ∷ drop (done + 1) s.events =
    ap (drop done) (sym same) ∙ drop-cons es done (Look 0) lt ∙ (λ i. sym at i ∷ drop (suc done) (same i)) ∙ ap (λ (z : ℕ). e ∷ drop z s.events) (sym (add-one done)) in
    let holds = decided s m st e None r.size r.seats (decides st r.stands) in
    let rest = replay s.size s.seats next (drop (done + 1) s.events) in record {
      history = history;
      stands = subst (StandsFor new) (sym reached) stands;
      size = size;
      seats = keeps.1 ∙ r.seats;
      counted = counted st items r.stands many ∙ (λ i. capped (plus (r.counted i) (rise st (step_in st e)))) ∙ capped-plus (counters_of first_state r.history) (rise st (step_in st e))
          ∙ ap capped (sym (counters_among-append (λ seat. true) first_state r.history entry));
      many = length-append r.history (entry ∷ []) ∙ ap (λ (z : ℕ). z + 1) r.many;
      printed = printed ∙ (λ i. r.printed i ++ word_line ((word ∙ stands.word ∙ ap (λ (z : ℕ). ring_word z next) size) i)) ∙ sym (words_of-append s.size first_state r.history entry);
      rest = r.rest ∙ ap (λ (z : List Event). prefixed r.history (replay s.size s.seats st z)) behind
          ∙ ap (λ (z : Option Illegal). prefixed r.history (replayed z entry rest)) holds
          ∙ (λ i. (sym (append_assoc r.history (entry ∷ []) rest.0) i, rest.1))
          ∙ ap (λ (z : RingState). prefixed history (replay s.size s.seats z (drop (done + 1) s.events))) (sym reached);
    }

pub replayed-end : (s : Schedule) (done : ℕ) (m : Kept) (out : List ℕ) → Replayed s done m out → length s.events ≤ done
    → (out ++ counters_line m.counters ≡ trace_text s) × (true ≡ is_legal s)
replayed-end s done m out r all = let st = state_after first_state r.history in
    let rest : replay s.size s.seats st (drop done s.events) ≡ ([], None) = ap (replay s.size s.seats st) (drop-all done s.events all) in
    let known = replay_of-known s r.history ([], None) (r.rest ∙ ap (prefixed r.history) rest) in
    ((λ i. r.printed i ++ counters_line (r.counted i)) ∙ (λ i. words_of s.size first_state (sym (append-nil r.history) i) ++ counters_line (capped (counters_of first_state (sym (append-nil r.history) i)))) ∙ sym known.0, sym known.1)

pub replayed-fault : (s : Schedule) (done line : ℕ) (m : Kept) (out : List ℕ) (es : List Event) (e : Event) (failing : Illegal)
    → Replayed s done m out → es ≡ s.events → done < length es → e ≡ get_or es done (Look 0) → line ≡ done + 2
    → ((st : RingState) → StandsFor m st → Some failing ≡ first_failing (conditions (sight_of m.size m.seats st (seat_of e)) e))
    → (out ++ fault_line line (condition_name failing) ≡ trace_text s) × (false ≡ is_legal s)
replayed-fault s done line m out es e failing r same lt at counted decides = let st = state_after first_state r.history in
    let behind : drop done s.events ≡ e ∷ drop (suc done) s.events = ap (drop done) (sym same) ∙ drop-cons es done (Look 0) lt ∙ (λ i. sym at i ∷ drop (suc done) (same i)) in
    let fails = decided s m st e (Some failing) r.size r.seats (decides st r.stands) in
    let next = effect st (seat_of e) (step_in st e) in
    let rest : replay s.size s.seats st (drop done s.events) ≡ ([], Some failing) = ap (replay s.size s.seats st) behind
    ∙ ap (λ (z : Option Illegal). replayed z (entry_in s.size st e) (replay s.size s.seats next (drop (suc done) s.events))) fails in
    let known = replay_of-known s r.history ([], Some failing) (r.rest ∙ ap (prefixed r.history) rest) in (
      (λ i. r.printed i ++ fault_line ((counted ∙ ap (λ (z : ℕ). z + 2) (sym r.many)) i) (condition_name failing))
          ∙ (λ i. words_of s.size first_state (sym (append-nil r.history) i) ++ fault_line (length (sym (append-nil r.history) i) + 2) (condition_name failing)) ∙ sym known.0,
      sym known.1,
    )

-- what a replay makes is legal
replayed-legal : (size seats : ℕ) (st : RingState) (e : Event) (r : Replay) (o : Option Illegal) → RingInvariant size st
    → first_failing (conditions (sight_of size seats st (seat_of e)) e) ≡ o
    → (first_failing (conditions (sight_of size seats st (seat_of e)) e) ≡ None → IsLegalHistory size (effect st (seat_of e) (step_in st e)) r.0 × AreSeatsBelow seats r.0)
    → IsLegalHistory size st (replayed o (entry_in size st e) r).0 × AreSeatsBelow seats (replayed o (entry_in size st e) r).0
replayed-legal size seats st e r None g is h = let items = replicate (items_of st e) nameless in let all = all_hold (conditions (sight_of size seats st (seat_of e)) e) is in
    ((refl, allowed size seats st e items g (length-replicate (items_of st e) nameless) all, (h is).0), (is_seat size seats st e all, (h is).1))
replayed-legal size seats st e r (Some failing) g is h = (tt, tt)

pub replay-legal : (size seats : ℕ) (st : RingState) (es : List Event) → RingInvariant size st
    → IsLegalHistory size st (replay size seats st es).0 × AreSeatsBelow seats (replay size seats st es).0
replay-legal size seats st [] g = (tt, tt)
replay-legal size seats st (e ∷ es) g = let next = effect st (seat_of e) (step_in st e) in let cs = conditions (sight_of size seats st (seat_of e)) e in
    replayed-legal size seats st e (replay size seats next es) (first_failing cs) g refl
    (λ none. replay-legal size seats next es (invariant-effect size st (seat_of e) (step_in st e) g
    (allowed size seats st e (replicate (items_of st e) nameless) g (length-replicate (items_of st e) nameless) (all_hold cs none))))
