use Rattle.std.proofs.Common.{◌≡◌, ℕ, List, [], ◌∷◌, ◌++◌, map, take, drop, refl, sym, ap, ◌∙◌}
use Rattle.std.proofs.lemmas.List.{map-append, take-append-drop}
use Rattle.ifl_ringcore.specs.declared.history.Meaning.{Meaning}
use Rattle.ifl_ringcore.specs.State.{first_state}
use Rattle.ifl_ringcore.specs.History.{state_after}
use Rattle.ifl_ring.specs.Closed.{left_after, released_after}
use Rattle.ifl_ring.specs.declared.tests.Number.{Number}
use Rattle.ifl_ring.proofs.tests.ledger.ended.Goals as goal

abbrev tag : Meaning → ℕ
tag m = m.tag

abbrev meaning : Number → Meaning
meaning i = record { tag = i.tag; bytes = []; marks = []; weight = 0 }

tag-meaning : (is : List Number) → map (λ (i : Number). i.tag) is ≡ map tag (map meaning is)
tag-meaning [] = refl
tag-meaning (i ∷ is) = ap (λ (ts : List ℕ). i.tag ∷ ts) (tag-meaning is)

pub returns-clause-each_once : goal.returns-clause-each_once
returns-clause-each_once c =
    let history = c.args.seat.known.seen in
    ap (λ (ts : List ℕ). ts ++ map (λ (i : Number). i.tag) c.into_left.result.items) c.close-closed.ensures.drainer.stands
    ∙ ap (λ (ts : List ℕ). map tag (released_after history) ++ ts)
    (tag-meaning c.into_left.result.items
    ∙ ap (λ (is : List Number). map tag (map meaning is)) c.into_left.ensures.items
    ∙ ap (map tag) c.close-closed.ensures.left)
    ∙ sym (map-append tag (released_after history) (left_after history))
    ∙ ap (map tag) (take-append-drop (state_after first_state history).released (state_after first_state history).items)
