-- A run's packets and away lines as an account of its files.
use Rattle.std.proofs.Common.{◌≡◌, ℕ, ◌+◌, ◌*◌, ◌/◌, ◌%◌, ◌^◌, ◌<◌, ◌≤◌, List, [], ◌∷◌, ◌++◌, length, append_assoc, sym, refl, ap, ◌∙◌, subst, inl, inr, ◌⊎◌, arith, eq-eqb, ne_eqb, lt_of_not-le}
use Rattle.std.specs.Prelude.{map}
use Rattle.std.specs.List.Sorted.{IsPermutation}
use Rattle.std.proofs.lemmas.List.Sorted.{IsPermutation-refl, IsPermutation-sym, IsPermutation-cons, IsPermutation-map, IsPermutation-append, IsPermutation-append_left, IsPermutation-append_right, IsPermutation-append_comm, IsPermutation-middle, IsPermutation-trans}
use mathlib.Core.Logic.{dite}
use native.Mathlib.Decide.{ℕ_discrete, dec_le}
use Rattle.ifl_base.specs.declared.ticket.Ticket.{Ticket}
use Rattle.ifl_pcap.specs.declared.frame.Frame.{Frame}
use Rattle.ifl_ringcore.specs.declared.history.Entry.{Entry}
use Rattle.ifl_ringcore.specs.declared.history.Meaning.{Meaning}
use Rattle.ifl_line.specs.declared.away_line.AwayLine.{AwayLine}
use Rattle.ifl_line.specs.declared.rules.Rules.{Rules}
use Rattle.ifl_line.specs.Meanings.{of_sender}
use Rattle.ifl_line.specs.Frames.{Goes}
use Rattle.ifl_line.specs.Steps.{packets}
use Rattle.ifl_line.specs.Sent.{sent_by, AreGone}
use Rattle.ifl_line.specs.Runs.{AreShort, ticket, ticket_of, tickets_from, all_from, all_lines}

abbrev tickets_in : List Meaning → List Ticket
tickets_in = map ticket_of

abbrev tickets_away : List AwayLine → List Ticket
tickets_away = map (λ (l : AwayLine). l.ticket)

map-append : {A B : Type 0} (f : A → B) (xs ys : List A) → map f (xs ++ ys) ≡ map f xs ++ map f ys
map-append f [] ys = refl
map-append f (x ∷ xs) ys = ap (λ (z : List _). f x ∷ z) (map-append f xs ys)

pub tag_ticket : (s k : ℕ) → k < 4294967296 → ticket ((s * 2 ^ 32 + k) / 2 ^ 32) ((s * 2 ^ 32 + k) % 2 ^ 32) ≡ ticket s k
tag_ticket s k small = let a : (s * 2 ^ 32 + k) / 2 ^ 32 ≡ s = omega arith in let b : (s * 2 ^ 32 + k) % 2 ^ 32 ≡ k = omega arith in λ i. ticket (a i) (b i)

-- the packets and away lines of one sender have the tickets of its file
goes_once : (size : ℕ) (r : Rules) (s k : ℕ) (fs : List Frame) (ls : List AwayLine) (ms : List Meaning) → k + length fs ≤ 4294967296 → Goes size r s k fs ls ms → IsPermutation (tickets_from s k fs) (tickets_in ms ++ tickets_away ls)
goes_once size r s k [] ls ms small (no_lines, none) = subst (λ (z : List Meaning × List AwayLine). IsPermutation [] (tickets_in z.0 ++ tickets_away z.1)) (λ i. (sym none i, sym no_lines i)) (IsPermutation-refl [])
goes_once size r s k (f ∷ fs) ls ms small (inl (xs, fit, is, more)) =
    let rest : IsPermutation (tickets_from s (k + 1) fs) (tickets_in xs ++ tickets_away ls) = goes_once size r s (k + 1) fs ls xs (omega arith) more in
    let t : IsPermutation (ticket s k ∷ tickets_from s (k + 1) fs) (ticket s k ∷ (tickets_in xs ++ tickets_away ls)) = IsPermutation-cons (ticket s k) (tickets_from s (k + 1) fs) (tickets_in xs ++ tickets_away ls) rest in
    let e : tickets_in ms ≡ ticket s k ∷ tickets_in xs = ap tickets_in is ∙ ap (λ (z : Ticket). z ∷ tickets_in xs) (tag_ticket s k (omega arith)) in
    subst (λ (z : List Ticket). IsPermutation (ticket s k ∷ tickets_from s (k + 1) fs) (z ++ tickets_away ls)) (sym e) t
goes_once size r s k (f ∷ fs) ls ms small (inr (why, xs, may, is, more)) =
    let rest : IsPermutation (tickets_from s (k + 1) fs) (tickets_in ms ++ tickets_away xs) = goes_once size r s (k + 1) fs xs ms (omega arith) more in
    let t : IsPermutation (ticket s k ∷ tickets_from s (k + 1) fs) (ticket s k ∷ (tickets_in ms ++ tickets_away xs)) = IsPermutation-cons (ticket s k) (tickets_from s (k + 1) fs) (tickets_in ms ++ tickets_away xs) rest in
    let u : IsPermutation (ticket s k ∷ (tickets_in ms ++ tickets_away xs)) (tickets_in ms ++ (ticket s k ∷ tickets_away xs)) = IsPermutation-sym (tickets_in ms ++ (ticket s k ∷ tickets_away xs)) (ticket s k ∷ (tickets_in ms ++ tickets_away xs)) (IsPermutation-middle (tickets_in ms) (ticket s k) (tickets_away xs)) in
    subst (λ (z : List AwayLine). IsPermutation (ticket s k ∷ tickets_from s (k + 1) fs) (tickets_in ms ++ tickets_away z)) (sym is)
    (IsPermutation-trans (ticket s k ∷ tickets_from s (k + 1) fs) (ticket s k ∷ (tickets_in ms ++ tickets_away xs)) (tickets_in ms ++ (ticket s k ∷ tickets_away xs)) t u)

-- two pairs of lists, each kind together
permute_pairs : {X : Type 0} (a b c d : List X) → IsPermutation ((a ++ b) ++ (c ++ d)) ((a ++ c) ++ (b ++ d))
permute_pairs a b c d =
    let mid : IsPermutation (b ++ c) (c ++ b) = IsPermutation-append_comm b c in
    let inner : IsPermutation ((b ++ c) ++ d) ((c ++ b) ++ d) = IsPermutation-append_left d (b ++ c) (c ++ b) mid in
    let outer : IsPermutation (a ++ ((b ++ c) ++ d)) (a ++ ((c ++ b) ++ d)) = IsPermutation-append_right a ((b ++ c) ++ d) ((c ++ b) ++ d) inner in
    let e : (a ++ b) ++ (c ++ d) ≡ a ++ ((b ++ c) ++ d) = append_assoc a b (c ++ d) ∙ ap (λ (z : List _). a ++ z) (sym (append_assoc b c d)) in
    let g : (a ++ c) ++ (b ++ d) ≡ a ++ ((c ++ b) ++ d) = append_assoc a c (b ++ d) ∙ ap (λ (z : List _). a ++ z) (sym (append_assoc c b d)) in
    subst (λ (z : List _ × List _). IsPermutation z.0 z.1) (λ i. (sym e i, sym g i)) outer

-- the items of some senders, one sender after another
abbrev pub by_sender : ℕ → List (List Frame) → List Meaning → List Meaning
by_sender s [] ms = []
by_sender s (fs ∷ fss) ms = of_sender s ms ++ by_sender (s + 1) fss ms

gone_once : (size : ℕ) (r : Rules) (s : ℕ) (fss : List (List Frame)) (lss : List (List AwayLine)) (es : List Entry) → AreShort fss → AreGone size r s fss lss es
    → IsPermutation (all_from s fss) (tickets_in (by_sender s fss (packets es)) ++ tickets_away (all_lines lss))
gone_once size r s [] [] es short g = IsPermutation-refl []
gone_once size r s [] (ls ∷ lss) es short g = absurd g
gone_once size r s (fs ∷ fss) [] es short g = absurd g
gone_once size r s (fs ∷ fss) (ls ∷ lss) es (few, short) (g, more) =
    let mine : List Meaning = sent_by s es in let others : List Meaning = by_sender (s + 1) fss (packets es) in
    let a : IsPermutation (tickets_from s 0 fs) (tickets_in mine ++ tickets_away ls) = goes_once size r s 0 fs ls mine (omega arith) g in
    let b : IsPermutation (all_from (s + 1) fss) (tickets_in others ++ tickets_away (all_lines lss)) = gone_once size r (s + 1) fss lss es short more in
    let both : IsPermutation (tickets_from s 0 fs ++ all_from (s + 1) fss) ((tickets_in mine ++ tickets_away ls) ++ (tickets_in others ++ tickets_away (all_lines lss))) = IsPermutation-append (tickets_from s 0 fs) (tickets_in mine ++ tickets_away ls) (all_from (s + 1) fss) (tickets_in others ++ tickets_away (all_lines lss)) a b in
    let c = permute_pairs (tickets_in mine) (tickets_away ls) (tickets_in others) (tickets_away (all_lines lss)) in
    subst (λ (z : List Ticket × List Ticket). IsPermutation (tickets_from s 0 fs ++ all_from (s + 1) fss) (z.0 ++ z.1)) (λ i. (sym (map-append ticket_of mine others) i, sym (map-append (λ (l : AwayLine). l.ticket) ls (all_lines lss)) i))
    (IsPermutation-trans (tickets_from s 0 fs ++ all_from (s + 1) fss) ((tickets_in mine ++ tickets_away ls) ++ (tickets_in others ++ tickets_away (all_lines lss))) ((tickets_in mine ++ tickets_in others) ++ (tickets_away ls ++ tickets_away (all_lines lss))) both c)

pub own_first : (m : Meaning) (ms : List Meaning) (s : ℕ) → m.tag / 2 ^ 32 ≡ s → of_sender s (m ∷ ms) ≡ m ∷ of_sender s ms
own_first m ms s e = rw (eq-eqb (m.tag / 2 ^ 32) s e) refl

pub other_first : (m : Meaning) (ms : List Meaning) (s : ℕ) → (m.tag / 2 ^ 32 ≡ s → ⊥) → of_sender s (m ∷ ms) ≡ of_sender s ms
other_first m ms s ne = rw (ne_eqb (m.tag / 2 ^ 32) s ne) refl

-- an item of a sender before these
before_all : (m : Meaning) (ms : List Meaning) (s : ℕ) (fss : List (List Frame)) → m.tag / 2 ^ 32 < s → by_sender s fss (m ∷ ms) ≡ by_sender s fss ms
before_all m ms s [] lt = refl
before_all m ms s (fs ∷ fss) lt = (λ i. other_first m ms s (λ e. omega arith) i ++ by_sender (s + 1) fss (m ∷ ms)) ∙ ap (λ (z : List Meaning). of_sender s ms ++ z) (before_all m ms (s + 1) fss (omega arith))

one_more : (m : Meaning) (ms : List Meaning) (s : ℕ) (fss : List (List Frame)) → s ≤ m.tag / 2 ^ 32 → m.tag / 2 ^ 32 < s + length fss → IsPermutation (m ∷ by_sender s fss ms) (by_sender s fss (m ∷ ms))
one_more m ms s [] lo hi = absurd (omega arith)
one_more m ms s (fs ∷ fss) lo hi = dite (ℕ_discrete (m.tag / 2 ^ 32) s)
    (λ e. let whole : by_sender s (fs ∷ fss) (m ∷ ms) ≡ m ∷ by_sender s (fs ∷ fss) ms = (λ i. own_first m ms s e i ++ by_sender (s + 1) fss (m ∷ ms)) ∙ ap (λ (z : List Meaning). (m ∷ of_sender s ms) ++ z) (before_all m ms (s + 1) fss (omega arith)) in
    subst (λ (z : List Meaning). IsPermutation (m ∷ by_sender s (fs ∷ fss) ms) z) (sym whole) (IsPermutation-refl (m ∷ by_sender s (fs ∷ fss) ms)))
    (λ ne. let a : List Meaning = of_sender s ms in let b : List Meaning = by_sender (s + 1) fss ms in let b' : List Meaning = by_sender (s + 1) fss (m ∷ ms) in
    let rec : IsPermutation (m ∷ b) b' = one_more m ms (s + 1) fss (omega arith) (omega arith) in
    let mid : IsPermutation (m ∷ (a ++ b)) (a ++ (m ∷ b)) = IsPermutation-sym (a ++ (m ∷ b)) (m ∷ (a ++ b)) (IsPermutation-middle a m b) in
    let all : IsPermutation (m ∷ (a ++ b)) (a ++ b') = IsPermutation-trans (m ∷ (a ++ b)) (a ++ (m ∷ b)) (a ++ b') mid (IsPermutation-append_right a (m ∷ b) b' rec) in
    subst (λ (z : List Meaning). IsPermutation (m ∷ (a ++ b)) (z ++ b')) (sym (other_first m ms s ne)) all)

pub none_left : {X : Type 0} (x : X) (xs : List X) → x ∷ xs ≡ [] → ⊥
none_left x xs e = cc

-- items of these senders alone, sorted by sender
pub sorted_senders : (ms : List Meaning) (s : ℕ) (fss : List (List Frame)) → ((k : ℕ) → (k < s) ⊎ (s + length fss ≤ k) → of_sender k ms ≡ []) → IsPermutation ms (by_sender s fss ms)
sorted_senders [] s fss none = subst (λ (z : List Meaning). IsPermutation [] z) (sym (nothing s fss)) (IsPermutation-refl []) where
  nothing : (s : ℕ) (fss : List (List Frame)) → by_sender s fss [] ≡ []
  nothing s [] = refl
  nothing s (fs ∷ fss) = nothing (s + 1) fss
sorted_senders (m ∷ ms) s fss none =
    let j : ℕ = m.tag / 2 ^ 32 in
    let outside : (j < s) ⊎ (s + length fss ≤ j) → ⊥ = λ o. none_left m (of_sender j ms) (sym (own_first m ms j refl) ∙ none j o) in
    let lo : s ≤ j = dite (dec_le s j) (λ le. le) (λ no. absurd (outside (inl (lt_of_not-le no)))) in
    let hi : j < s + length fss = dite (dec_le (s + length fss) j) (λ le. absurd (outside (inr le))) (λ no. lt_of_not-le no) in
    let rest : (k : ℕ) → (k < s) ⊎ (s + length fss ≤ k) → of_sender k ms ≡ [] = λ k o. sym (other_first m ms k (λ e. outside (subst (λ (z : ℕ). (z < s) ⊎ (s + length fss ≤ z)) (sym e) o))) ∙ none k o in
    let rec : IsPermutation (m ∷ ms) (m ∷ by_sender s fss ms) = IsPermutation-cons m ms (by_sender s fss ms) (sorted_senders ms s fss rest) in
    IsPermutation-trans (m ∷ ms) (m ∷ by_sender s fss ms) (by_sender s fss (m ∷ ms)) rec (one_more m ms s fss lo hi)

-- every record stands in exactly one of the two lists
pub each_once : (size : ℕ) (r : Rules) (s : ℕ) (fss : List (List Frame)) (lss : List (List AwayLine)) (es : List Entry) → AreShort fss → AreGone size r s fss lss es → ((k : ℕ) → (k < s) ⊎ (s + length fss ≤ k) → sent_by k es ≡ [])
    → IsPermutation (all_from s fss) (map ticket_of (packets es) ++ map (λ (l : AwayLine). l.ticket) (all_lines lss))
each_once size r s fss lss es short gone others =
    let a = gone_once size r s fss lss es short gone in let ms : List Meaning = packets es in let away : List Ticket = tickets_away (all_lines lss) in
    let b : IsPermutation (tickets_in (by_sender s fss ms)) (tickets_in ms) = IsPermutation-sym (tickets_in ms) (tickets_in (by_sender s fss ms)) (IsPermutation-map ticket_of ms (by_sender s fss ms) (sorted_senders ms s fss others)) in
    IsPermutation-trans (all_from s fss) (tickets_in (by_sender s fss ms) ++ away) (tickets_in ms ++ away) a (IsPermutation-append_left away (tickets_in (by_sender s fss ms)) (tickets_in ms) b)
