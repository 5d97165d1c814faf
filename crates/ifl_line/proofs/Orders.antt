-- The order of a run's packets and away lines.
use Rattle.std.proofs.Common.{◌≡◌, ℕ, ◌+◌, ◌*◌, ◌/◌, ◌%◌, ◌^◌, ◌<◌, ◌≤◌, List, [], ◌∷◌, ◌++◌, length, sym, refl, ◌∙◌, subst, inl, inr, ◌⊎◌, arith, lt_of_not-le}
use Rattle.std.specs.Prelude.{map, All, AllPairs}
use Rattle.std.proofs.lemmas.List.Elements.{All-nil, All-cons, All-map}
use Rattle.std.proofs.lemmas.List.Kept.{AllPairs-cons}
use mathlib.Core.Logic.{dite}
use native.Mathlib.Decide.{ℕ_discrete, dec_le}
use Rattle.ifl_base.specs.declared.ticket.Ticket.{Ticket}
use Rattle.ifl_pcap.specs.declared.frame.Frame.{Frame}
use Rattle.ifl_ringcore.specs.declared.history.Entry.{Entry}
use Rattle.ifl_ringcore.specs.declared.history.Meaning.{Meaning}
use Rattle.ifl_line.specs.declared.away_line.AwayLine.{AwayLine}
use Rattle.ifl_line.specs.declared.rules.Rules.{Rules}
use Rattle.ifl_line.specs.Meanings.{of_sender}
use Rattle.ifl_line.specs.Frames.{Goes, line_of}
use Rattle.ifl_line.specs.Steps.{packets}
use Rattle.ifl_line.specs.Sent.{sent_by, AreGone}
use Rattle.ifl_line.specs.Runs.{AreShort, ticket_of, all_lines, IsInFileOrder, IsBefore}
use Rattle.ifl_line.proofs.Accounts.{own_first, other_first}

-- ---- packets

-- a packet's record is below those of all items behind it
abbrev IsBelow : ℕ → List Meaning → Type 0
IsBelow k [] = Unit {0}
IsBelow k (m ∷ ms) = (k ≤ m.tag % 2 ^ 32) × IsBelow k ms

abbrev Ascend : List Meaning → Type 0
Ascend [] = Unit {0}
Ascend (m ∷ ms) = IsBelow (m.tag % 2 ^ 32 + 1) ms × Ascend ms

below_less : (j k : ℕ) (ms : List Meaning) → j ≤ k → IsBelow k ms → IsBelow j ms
below_less j k [] le b = tt
below_less j k (m ∷ ms) le (b, bs) = (omega arith, below_less j k ms le bs)

goes_ascend : (size : ℕ) (r : Rules) (s k : ℕ) (fs : List Frame) (ls : List AwayLine) (ms : List Meaning) → k + length fs ≤ 4294967296 → Goes size r s k fs ls ms → IsBelow k ms × Ascend ms
goes_ascend size r s k [] ls ms small (no_lines, none) = subst (λ (z : List Meaning). IsBelow k z × Ascend z) (sym none) (tt, tt)
goes_ascend size r s k (f ∷ fs) ls ms small (inl (xs, fit, is, more)) =
    let (b, a) = goes_ascend size r s (k + 1) fs ls xs (omega arith) more in
    let here : (s * 2 ^ 32 + k) % 2 ^ 32 ≡ k = omega arith in
    let first : IsBelow ((s * 2 ^ 32 + k) % 2 ^ 32 + 1) xs = subst (λ (z : ℕ). IsBelow (z + 1) xs) (sym here) b in
    subst (λ (z : List Meaning). IsBelow k z × Ascend z) (sym is) (((omega arith), below_less k (k + 1) xs (omega arith) b), (first, a))
goes_ascend size r s k (f ∷ fs) ls ms small (inr (why, xs, may, is, more)) = let (b, a) = goes_ascend size r s (k + 1) fs xs ms (omega arith) more in (below_less k (k + 1) ms (omega arith) b, a)

-- what holds of all items of a sender
after_own : (m : Meaning) (xs : List Meaning) → IsBelow (m.tag % 2 ^ 32 + 1) (of_sender (m.tag / 2 ^ 32) xs) → All (λ (y : Meaning). IsInFileOrder (ticket_of m) (ticket_of y)) xs
after_own m [] b = All-nil (λ (y : Meaning). IsInFileOrder (ticket_of m) (ticket_of y))
after_own m (x ∷ xs) b = dite (ℕ_discrete (x.tag / 2 ^ 32) (m.tag / 2 ^ 32))
    (λ e. let c : IsBelow (m.tag % 2 ^ 32 + 1) (x ∷ of_sender (m.tag / 2 ^ 32) xs) = subst (IsBelow (m.tag % 2 ^ 32 + 1)) (own_first x xs (m.tag / 2 ^ 32) e) b in
    let lo : m.tag % 2 ^ 32 + 1 ≤ x.tag % 2 ^ 32 = c.0 in
    All-cons (λ (y : Meaning). IsInFileOrder (ticket_of m) (ticket_of y)) x xs (λ same. omega arith) (after_own m xs c.1))
    (λ ne. All-cons (λ (y : Meaning). IsInFileOrder (ticket_of m) (ticket_of y)) x xs (λ same. absurd (ne (sym same))) (after_own m xs (subst (IsBelow (m.tag % 2 ^ 32 + 1)) (other_first x xs (m.tag / 2 ^ 32) ne) b)))

ascend_tail : (x : Meaning) (xs : List Meaning) (s : ℕ) → Ascend (of_sender s (x ∷ xs)) → Ascend (of_sender s xs)
ascend_tail x xs s a = dite (ℕ_discrete (x.tag / 2 ^ 32) s)
    (λ e. let b : Ascend (x ∷ of_sender s xs) = subst Ascend (own_first x xs s e) a in b.1)
    (λ ne. subst Ascend (other_first x xs s ne) a)

no_pairs : {X : Type 0} (R : X → X → Type 0) → AllPairs R []
no_pairs R i j d lt le = absurd (omega arith)

in_order : (ms : List Meaning) → ((s : ℕ) → Ascend (of_sender s ms)) → AllPairs IsInFileOrder (map ticket_of ms)
in_order [] a = no_pairs IsInFileOrder
in_order (m ∷ ms) a = let first : Ascend (m ∷ of_sender (m.tag / 2 ^ 32) ms) = subst Ascend (own_first m ms (m.tag / 2 ^ 32) refl) (a (m.tag / 2 ^ 32)) in
    AllPairs-cons IsInFileOrder (ticket_of m) (map ticket_of ms) (All-map (IsInFileOrder (ticket_of m)) ticket_of ms (after_own m ms first.0)) (in_order ms (λ s. ascend_tail m ms s (a s)))

-- what each sender of a part published ascends
gone_ascend : (size : ℕ) (r : Rules) (s k : ℕ) (fss : List (List Frame)) (lss : List (List AwayLine)) (es : List Entry) → AreShort fss → AreGone size r s fss lss es → s ≤ k → k < s + length fss → Ascend (sent_by k es)
gone_ascend size r s k [] [] es short g lo hi = absurd (omega arith)
gone_ascend size r s k [] (ls ∷ lss) es short g lo hi = absurd g
gone_ascend size r s k (fs ∷ fss) [] es short g lo hi = absurd g
gone_ascend size r s k (fs ∷ fss) (ls ∷ lss) es (few, short) (g, more) lo hi = dite (ℕ_discrete s k)
    (λ e. subst (λ (z : ℕ). Ascend (sent_by z es)) e (goes_ascend size r s 0 fs ls (sent_by s es) (omega arith) g).1)
    (λ ne. gone_ascend size r (s + 1) k fss lss es short more (omega arith) (omega arith))

pub in_file_order : (size : ℕ) (r : Rules) (s : ℕ) (fss : List (List Frame)) (lss : List (List AwayLine)) (es : List Entry) → AreShort fss → AreGone size r s fss lss es → ((k : ℕ) → (k < s) ⊎ (s + length fss ≤ k) → sent_by k es ≡ [])
    → AllPairs IsInFileOrder (map ticket_of (packets es))
in_file_order size r s fss lss es short gone others = in_order (packets es) (λ k. dite (dec_le s k)
    (λ lo. dite (dec_le (s + length fss) k) (λ out. subst Ascend (sym (others k (inr out))) tt) (λ hi. gone_ascend size r s k fss lss es short gone lo (lt_of_not-le hi)))
    (λ below. subst Ascend (sym (others k (inl (lt_of_not-le below)))) tt))

-- ---- lines

abbrev IsAfter : Ticket → AwayLine → Type 0
IsAfter t l = IsBefore t l.ticket

-- the lines are of this sender, and of records from k on
abbrev AreFrom : ℕ → ℕ → List AwayLine → Type 0
AreFrom s k [] = Unit {0}
AreFrom s k (l ∷ ls) = (l.ticket.sender ≡ s) × (k ≤ l.ticket.index) × AreFrom s k ls

from_less : (s j k : ℕ) (ls : List AwayLine) → j ≤ k → AreFrom s k ls → AreFrom s j ls
from_less s j k [] le b = tt
from_less s j k (l ∷ ls) le (is, b, bs) = (is, omega arith, from_less s j k ls le bs)

goes_from : (size : ℕ) (r : Rules) (s k : ℕ) (fs : List Frame) (ls : List AwayLine) (ms : List Meaning) → Goes size r s k fs ls ms → AreFrom s k ls
goes_from size r s k [] ls ms (none, no_packets) = subst (AreFrom s k) (sym none) tt
goes_from size r s k (f ∷ fs) ls ms (inl (xs, fit, is, more)) = from_less s k (k + 1) ls (omega arith) (goes_from size r s (k + 1) fs ls xs more)
goes_from size r s k (f ∷ fs) ls ms (inr (why, xs, may, is, more)) = subst (AreFrom s k) (sym is) (refl, omega arith, from_less s k (k + 1) xs (omega arith) (goes_from size r s (k + 1) fs xs ms more))

-- the lines of later senders
abbrev AreLater : ℕ → List AwayLine → Type 0
AreLater s [] = Unit {0}
AreLater s (l ∷ ls) = (s ≤ l.ticket.sender) × AreLater s ls

later_append : (s : ℕ) (xs ys : List AwayLine) → AreLater s xs → AreLater s ys → AreLater s (xs ++ ys)
later_append s [] ys a b = b
later_append s (x ∷ xs) ys (is, a) b = (is, later_append s xs ys a b)

from_later : (s k : ℕ) (ls : List AwayLine) → AreFrom s k ls → AreLater s ls
from_later s k [] b = tt
from_later s k (l ∷ ls) (is, lo, b) = (omega arith, from_later s k ls b)

later_less : (s t : ℕ) (ls : List AwayLine) → s ≤ t → AreLater t ls → AreLater s ls
later_less s t [] le a = tt
later_less s t (l ∷ ls) le (is, a) = (omega arith, later_less s t ls le a)

gone_later : (size : ℕ) (r : Rules) (s : ℕ) (fss : List (List Frame)) (lss : List (List AwayLine)) (es : List Entry) → AreGone size r s fss lss es → AreLater s (all_lines lss)
gone_later size r s [] [] es g = tt
gone_later size r s [] (ls ∷ lss) es g = absurd g
gone_later size r s (fs ∷ fss) [] es g = absurd g
gone_later size r s (fs ∷ fss) (ls ∷ lss) es (g, more) = later_append s ls (all_lines lss) (from_later s 0 ls (goes_from size r s 0 fs ls (sent_by s es) g)) (later_less s (s + 1) (all_lines lss) (omega arith) (gone_later size r (s + 1) fss lss es more))

-- a line before those of its own sender's later records and those of later senders
line_first : (s k : ℕ) (t : Ticket) (xs ys : List AwayLine) → t.sender ≡ s → t.index < k → AreFrom s k xs → AreLater (s + 1) ys → All (IsAfter t) (xs ++ ys)
line_first s k t [] [] is lt a b = All-nil (IsAfter t)
line_first s k t [] (y ∷ ys) is lt a (b, bs) = All-cons (IsAfter t) y ys (inl (omega arith)) (line_first s k t [] ys is lt tt bs)
line_first s k t (x ∷ xs) ys is lt (own, lo, a) b = All-cons (IsAfter t) x (xs ++ ys) (inr (is ∙ sym own, omega arith)) (line_first s k t xs ys is lt a b)

abbrev tickets_away : List AwayLine → List Ticket
tickets_away = map (λ (l : AwayLine). l.ticket)

goes_in_order : (size : ℕ) (r : Rules) (s k : ℕ) (fs : List Frame) (ls ys : List AwayLine) (ms : List Meaning) → Goes size r s k fs ls ms → AreLater (s + 1) ys → AllPairs IsBefore (tickets_away ys) → AllPairs IsBefore (tickets_away (ls ++ ys))
goes_in_order size r s k [] ls ys ms (none, no_packets) later rest = subst (λ (z : List AwayLine). AllPairs IsBefore (tickets_away (z ++ ys))) (sym none) rest
goes_in_order size r s k (f ∷ fs) ls ys ms (inl (xs, fit, is, more)) later rest = goes_in_order size r s (k + 1) fs ls ys xs more later rest
goes_in_order size r s k (f ∷ fs) ls ys ms (inr (why, xs, may, is, more)) later rest =
    let t : Ticket = (line_of s k why).ticket in
    let first : All (IsAfter t) (xs ++ ys) = line_first s (k + 1) t xs ys refl (omega arith) (goes_from size r s (k + 1) fs xs ms more) later in
    subst (λ (z : List AwayLine). AllPairs IsBefore (tickets_away (z ++ ys))) (sym is)
    (AllPairs-cons IsBefore t (tickets_away (xs ++ ys)) (All-map (IsBefore t) (λ (l : AwayLine). l.ticket) (xs ++ ys) first) (goes_in_order size r s (k + 1) fs xs ys ms more later rest))

pub away_in_order : (size : ℕ) (r : Rules) (s : ℕ) (fss : List (List Frame)) (lss : List (List AwayLine)) (es : List Entry) → AreGone size r s fss lss es → AllPairs IsBefore (map (λ (l : AwayLine). l.ticket) (all_lines lss))
away_in_order size r s [] [] es g = no_pairs IsBefore
away_in_order size r s [] (ls ∷ lss) es g = absurd g
away_in_order size r s (fs ∷ fss) [] es g = absurd g
away_in_order size r s (fs ∷ fss) (ls ∷ lss) es (g, more) = goes_in_order size r s 0 fs ls (all_lines lss) (sent_by s es) g (gone_later size r (s + 1) fss lss es more) (away_in_order size r (s + 1) fss lss es more)
