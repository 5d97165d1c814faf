-- The frames of one sender, some after others.
use Rattle.std.proofs.Common.{true, false, ◌≡◌, ℕ, suc, ◌+◌, ◌*◌, ◌/◌, ◌^◌, ◌<◌, ◌≤◌, eqb, List, [], ◌∷◌, ◌++◌, length, sym, refl, ap, ◌∙◌, subst, inl, inr, arith, eq-eqb, ne_eqb}
use Rattle.ifl_pcap.specs.declared.frame.Frame.{Frame}
use Rattle.ifl_ringcore.specs.declared.history.Meaning.{Meaning}
use Rattle.ifl_line.specs.declared.away_line.AwayLine.{AwayLine}
use Rattle.ifl_line.specs.declared.rules.Rules.{Rules}
use Rattle.ifl_line.specs.Meanings.{packet_of, of_sender, is_kick}
use Rattle.ifl_line.specs.Frames.{Goes, lines_with, no_clusters_in, needs}

pub lines_with-append : (n : ℕ) (xs ys : List AwayLine) → lines_with n (xs ++ ys) ≡ lines_with n xs + lines_with n ys
lines_with-append n [] ys = omega arith
lines_with-append n (x ∷ xs) ys = let t = lines_with-append n xs ys in omega arith

pub no_clusters_in-append : (xs ys : List AwayLine) → no_clusters_in (xs ++ ys) ≡ no_clusters_in xs + no_clusters_in ys
no_clusters_in-append [] ys = omega arith
no_clusters_in-append (x ∷ xs) ys = let t = no_clusters_in-append xs ys in omega arith

pub needs-append : (r : Rules) (xs ys : List Frame) → needs r (xs ++ ys) ≡ needs r xs + needs r ys
needs-append r [] ys = omega arith
needs-append r (x ∷ xs) ys = let t = needs-append r xs ys in omega arith

-- further frames behind those before
pub goes_more : (size : ℕ) (r : Rules) (s k : ℕ) (fs gs : List Frame) (ls ls' : List AwayLine) (ms ms' : List Meaning)
    → Goes size r s k fs ls ms → Goes size r s (k + length fs) gs ls' ms' → Goes size r s k (fs ++ gs) (ls ++ ls') (ms ++ ms')
goes_more size r s k [] gs ls ls' ms ms' (no_lines, no_packets) rest =
    let here : k + 0 ≡ k = omega arith in
    subst (λ (z : ℕ × List AwayLine × List Meaning). Goes size r s z.0 gs z.1 z.2) (λ i. (here i, sym no_lines i ++ ls', sym no_packets i ++ ms')) rest
goes_more size r s k (f ∷ fs) gs ls ls' ms ms' (inl (xs, fit, is, more)) rest =
    let there : k + suc (length fs) ≡ k + 1 + length fs = omega arith in
    inl (xs ++ ms', fit, ap (λ (z : List Meaning). z ++ ms') is, goes_more size r s (k + 1) fs gs ls ls' xs ms' more (subst (λ (z : ℕ). Goes size r s z gs ls' ms') there rest))
goes_more size r s k (f ∷ fs) gs ls ls' ms ms' (inr (why, xs, may, is, more)) rest =
    let there : k + suc (length fs) ≡ k + 1 + length fs = omega arith in
    inr (why, xs ++ ls', may, ap (λ (z : List AwayLine). z ++ ls') is, goes_more size r s (k + 1) fs gs xs ls' ms ms' more (subst (λ (z : ℕ). Goes size r s z gs ls' ms') there rest))

-- ---- tags

tag_sender : (s k : ℕ) → k < 4294967296 → (s * 2 ^ 32 + k) / 2 ^ 32 ≡ s
tag_sender s k small = omega arith

-- a packet's tag is no kick's
pub tag_packet : (s k : ℕ) → s < 65536 → k < 4294967296 → eqb (s * 2 ^ 32 + k) 18446744073709551615 ≡ false
tag_packet s k low small = ne_eqb (s * 2 ^ 32 + k) 18446744073709551615 (λ e. omega arith)

pub is_packet_of : (seg_bytes s k : ℕ) (f : Frame) → s < 65536 → k < 4294967296 → is_kick (packet_of seg_bytes s k f) ≡ false
is_packet_of seg_bytes s k f low small = tag_packet s k low small

-- what a sender published is its own
pub goes_own : (size : ℕ) (r : Rules) (s k : ℕ) (fs : List Frame) (ls : List AwayLine) (ms : List Meaning) → k + length fs ≤ 4294967296 → Goes size r s k fs ls ms → of_sender s ms ≡ ms
goes_own size r s k [] ls ms small (no_lines, none) = ap (of_sender s) none ∙ sym none
goes_own size r s k (f ∷ fs) ls ms small (inl (xs, fit, is, more)) =
    let m : Meaning = packet_of r.seg_bytes s k f in
    let own : eqb (m.tag / 2 ^ 32) s ≡ true = eq-eqb (m.tag / 2 ^ 32) s (tag_sender s k (omega arith)) in
    let first : of_sender s (m ∷ xs) ≡ m ∷ of_sender s xs = rw own refl in
    ap (of_sender s) is ∙ first ∙ ap (λ (z : List Meaning). m ∷ z) (goes_own size r s (k + 1) fs ls xs (omega arith) more) ∙ sym is
goes_own size r s k (f ∷ fs) ls ms small (inr (why, xs, may, is, more)) = goes_own size r s (k + 1) fs xs ms (omega arith) more

pub goes_other : (size : ℕ) (r : Rules) (s t k : ℕ) (fs : List Frame) (ls : List AwayLine) (ms : List Meaning) → (t ≡ s → ⊥) → k + length fs ≤ 4294967296 → Goes size r s k fs ls ms → of_sender t ms ≡ []
goes_other size r s t k [] ls ms other small (no_lines, none) = ap (of_sender t) none
goes_other size r s t k (f ∷ fs) ls ms other small (inl (xs, fit, is, more)) =
    let m : Meaning = packet_of r.seg_bytes s k f in let own : m.tag / 2 ^ 32 ≡ s = tag_sender s k (omega arith) in
    let not_own : eqb (m.tag / 2 ^ 32) t ≡ false = ne_eqb (m.tag / 2 ^ 32) t (λ e. other (sym e ∙ own)) in
    let first : of_sender t (m ∷ xs) ≡ of_sender t xs = rw not_own refl in
    ap (of_sender t) is ∙ first ∙ goes_other size r s t (k + 1) fs ls xs other (omega arith) more
goes_other size r s t k (f ∷ fs) ls ms other small (inr (why, xs, may, is, more)) = goes_other size r s t (k + 1) fs xs ms other (omega arith) more
