-- How many lines and frames there are.
use Rattle.std.proofs.Common.{◌≡◌, ℕ, zero, suc, ◌<◌, ◌+◌, ◌*◌, ◌≤◌, List, [], ◌∷◌, ◌++◌, length, length-append, map, take, refl, sym, ap, subst, inl, inr, get_or, arith}
use Rattle.std.specs.Prelude.{sum}
use Rattle.std.proofs.lemmas.List.{take_more}
use Rattle.std.proofs.lemmas.List.Sums.{sum_by-cons}
use Rattle.ifl_pcap.specs.declared.capture.Capture.{Capture}
use Rattle.ifl_pcap.specs.declared.frame.Frame.{Frame}
use Rattle.ifl_ringcore.specs.declared.history.Entry.{Entry}
use Rattle.ifl_ringcore.specs.declared.history.Meaning.{Meaning}
use Rattle.ifl_line.specs.declared.away_line.AwayLine.{AwayLine}
use Rattle.ifl_line.specs.declared.gathering.Ended.{Ended}
use Rattle.ifl_line.specs.declared.rules.Rules.{Rules}
use Rattle.ifl_txq.specs.declared.line.OrderLine.{OrderLine}
use Rattle.ifl_line.specs.Frames.{Goes}
use Rattle.ifl_line.specs.Lines.{AreSmall}
use Rattle.ifl_line.specs.Runs.{AreShort, all_lines}
use Rattle.ifl_line.specs.Sent.{sent_by, AreGone}
use Rattle.ifl_line.specs.Works.{AreFew, captures_of, files_in, files_of}

pub sum-cons : (x : ℕ) (xs : List ℕ) → sum (x ∷ xs) ≡ x + sum xs
sum-cons x xs = sum_by-cons (λ (z : ℕ). z) x xs

goes_few : (size : ℕ) (r : Rules) (s k : ℕ) (fs : List Frame) (ls : List AwayLine) (ms : List Meaning) → Goes size r s k fs ls ms → length ls ≤ length fs
goes_few size r s k [] ls ms (none, no_packets) = let e : length ls ≡ 0 = ap length none in omega arith
goes_few size r s k (f ∷ fs) ls ms (inl (xs, fit, is, more)) = let t = goes_few size r s (k + 1) fs ls xs more in omega arith
goes_few size r s k (f ∷ fs) ls ms (inr (why, xs, may, is, more)) = let t = goes_few size r s (k + 1) fs xs ms more in let e : length ls ≡ suc (length xs) = ap length is in omega arith

-- a sender leaves at most a line for each frame
pub lines_few : (size : ℕ) (r : Rules) (s : ℕ) (fss : List (List Frame)) (lss : List (List AwayLine)) (es : List Entry) → AreGone size r s fss lss es → length (all_lines lss) ≤ sum (map length fss)
lines_few size r s [] [] es g = omega arith
lines_few size r s [] (ls ∷ lss) es g = absurd g
lines_few size r s (fs ∷ fss) [] es g = absurd g
lines_few size r s (fs ∷ fss) (ls ∷ lss) es (g, more) = let a = goes_few size r s 0 fs ls (sent_by s es) g in let b = lines_few size r (s + 1) fss lss es more in let c = length-append ls (all_lines lss) in
    let e = sum-cons (length fs) (map length fss) in omega arith

-- some captures have at most a million frames each
pub few_in : (cs : List Capture) → AreFew cs → sum (map length (files_of cs)) ≤ 1000000 * length cs
few_in [] few = omega arith
few_in (c ∷ cs) (few, more) = let t = few_in cs more in let e = sum-cons (length c.frames) (map length (files_of cs)) in omega arith

pub few_at : (cs : List Capture) (k : ℕ) (d : Capture) → AreFew cs → k < length cs → length (get_or cs k d).frames ≤ 1000000
few_at [] k d few lt = absurd (omega arith)
few_at (c ∷ cs) zero d (few, more) lt = few
few_at (c ∷ cs) (suc k) d (few, more) lt = few_at cs k d more (omega arith)

-- and have no more frames than tickets can number
pub few_short : (cs : List Capture) → AreFew cs → AreShort (files_of cs)
few_short [] few = tt
few_short (c ∷ cs) (few, more) = (omega arith, few_short cs more)

-- the files of what the senders leave are those of their captures
pub files_in-captures_of : (xs : List Ended) → files_in xs ≡ files_of (captures_of xs)
files_in-captures_of [] = refl
files_in-captures_of (x ∷ xs) = ap (λ (z : List (List Frame)). x.capture.frames ∷ z) (files_in-captures_of xs)

pub length-files_of : (xs : List Capture) → length (files_of xs) ≡ length xs
length-files_of [] = refl
length-files_of (x ∷ xs) = ap suc (length-files_of xs)

pub files_of-append : (xs ys : List Capture) → files_of (xs ++ ys) ≡ files_of xs ++ files_of ys
files_of-append [] ys = refl
files_of-append (x ∷ xs) ys = ap (λ (z : List (List Frame)). x.frames ∷ z) (files_of-append xs ys)

small_more : (xs : List OrderLine) (l : OrderLine) → AreSmall xs → l.ticket.index < 4294967296 → AreSmall (xs ++ l ∷ [])
small_more [] l small low = (low, tt)
small_more (x ∷ xs) l (is, small) low = (is, small_more xs l small low)

-- one line more, whose number fits
pub small_next : (xs : List OrderLine) (k : ℕ) (d : OrderLine) → k < length xs → AreSmall (take k xs) → (get_or xs k d).ticket.index < 4294967296 → AreSmall (take (k + 1) xs)
small_next xs k d lt small low = subst AreSmall (sym (take_more xs k d lt)) (small_more (take k xs) (get_or xs k d) small low)
