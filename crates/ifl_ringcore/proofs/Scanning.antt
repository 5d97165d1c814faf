-- A schedule's text, read line by line.
use Rattle.std.proofs.Common.{◌≡◌, ◌≢◌, ℕ, ◌+◌, ◌<◌, List, [], ◌∷◌, ◌++◌, length, sym, ap, ◌∙◌, arith, inr, length-append}
use mathlib.Core.List.{append_assoc}
use Rattle.std.proofs.lemmas.List.Elements.{All-push}
use Rattle.ifl_ringcore.specs.declared.event.Event.{Event}
use Rattle.ifl_ringcore.specs.Schedule.{IsEvent, event_line, event_lines, ring_line, schedule_text, IsFirstBadLine}
use Rattle.ifl_ringcore.specs.Reading.{HasRead}

-- the lines of one more event
event_lines-append : (es : List Event) (e : Event) (rest : List ℕ) → event_lines (es ++ e ∷ []) ++ rest ≡ event_lines es ++ (event_line e ++ (10 ∷ rest))
event_lines-append [] e rest = append_assoc (event_line e) (10 ∷ []) rest
event_lines-append (x ∷ xs) e rest = append_assoc (event_line x) (10 ∷ event_lines (xs ++ e ∷ [])) rest
    ∙ ap (λ (z : List ℕ). event_line x ++ (10 ∷ z)) (event_lines-append xs e rest)
    ∙ sym (append_assoc (event_line x) (10 ∷ event_lines xs) (event_line e ++ (10 ∷ rest)))

schedule_text-append : (size seats : ℕ) (es : List Event) (e : Event) (rest : List ℕ)
    → schedule_text record { size = size; seats = seats; events = es ++ e ∷ [] } ++ rest ≡ schedule_text record { size = size; seats = seats; events = es } ++ (event_line e ++ (10 ∷ rest))
schedule_text-append size seats es e rest = append_assoc (ring_line size seats) (10 ∷ event_lines (es ++ e ∷ [])) rest
    ∙ ap (λ (z : List ℕ). ring_line size seats ++ (10 ∷ z)) (event_lines-append es e rest)
    ∙ sym (append_assoc (ring_line size seats) (10 ∷ event_lines es) (event_line e ++ (10 ∷ rest)))

pub read-more : (text : List ℕ) (size seats : ℕ) (es : List Event) (rest : List ℕ) (line : ℕ) (e : Event) (behind : List ℕ)
    → HasRead text size seats es rest line → IsEvent e → rest ≡ event_line e ++ (10 ∷ behind) → HasRead text size seats (es ++ e ∷ []) behind (line + 1)
read-more text size seats es rest line e behind h is reads = record {
  ring = h.ring;
  all = All-push IsEvent es e h.all is;
  reads = h.reads ∙ ap (λ (z : List ℕ). schedule_text record { size = size; seats = seats; events = es } ++ z) reads ∙ sym (schedule_text-append size seats es e behind);
  counted = (let c = h.counted in omega (arith, length-append es (e ∷ [])));
  fits = (let f = h.fits in omega (arith, ap length reads, length-append (event_line e) (10 ∷ behind)));
}

pub read-bad : (text : List ℕ) (size seats : ℕ) (es : List Event) (rest : List ℕ) (line : ℕ)
    → HasRead text size seats es rest line → 0 < length rest → ((e : Event) (behind : List ℕ) → IsEvent e → rest ≢ event_line e ++ (10 ∷ behind)) → IsFirstBadLine text (line + 1)
read-bad text size seats es rest line h more never = inr record {
  before = record { size = size; seats = seats; events = es };
  rest = rest;
  ring = h.ring;
  events = h.all;
  reads = h.reads;
  counted = (let c = h.counted in omega arith);
  more = more;
  bad = never;
}
