-- A sender's frames, and the parts of a run as one.
use Rattle.std.proofs.Common.{Bool, ◌≡◌, ℕ, suc, ◌+◌, ◌<◌, ◌≤◌, List, [], ◌∷◌, ◌++◌, length, append_assoc, append-nil, sym, refl, ap, ◌∙◌, subst, inl, inr, ⊎_elim, arith, length-append}
use Rattle.ifl_pcap.specs.declared.frame.Frame.{Frame}
use Rattle.ifl_pool.specs.declared.history.Counts.{Counts}
use Rattle.ifl_pool.specs.declared.known.Known.{Known as Passed}
use Rattle.ifl_pool.specs.History.{no_counts, counts_sum}
use Rattle.ifl_ring.specs.declared.view.Known.{Known}
use Rattle.ifl_ring.specs.Seats.{events}
use Rattle.ifl_ringcore.specs.declared.history.Entry.{Entry}
use Rattle.ifl_ringcore.specs.declared.history.Meaning.{Meaning}
use Rattle.ifl_line.specs.declared.away_line.AwayLine.{AwayLine}
use Rattle.ifl_line.specs.declared.rules.Rules.{Rules}
use Rattle.ifl_ring.specs.Merges.{IsMerge}
use Rattle.ifl_txq.specs.Standing.{packets as packets_in}
use Rattle.ifl_line.specs.Meanings.{of_sender}
use Rattle.ifl_line.specs.Steps.{items_of, packets, weigh, refusals, AreLawful, OnlyKicks}
use Rattle.ifl_line.specs.Frames.{Goes, lines_with, no_clusters_in}
use Rattle.ifl_line.specs.Sent.{sent_by, AreGone, all_lines_with, all_no_clusters, all_needs, IsSent, Rises, Handled}
use Rattle.ifl_line.proofs.Merging.{merge_swap, merge-sent, merge-weigh, merge-refusals, merge-lawful, merge_append}
use Rattle.ifl_line.proofs.Stepping.{stepped_none, stepped_more, refusals-append, kicks-packets, kicks-weigh, kicks-lawful}
use Rattle.ifl_line.proofs.Going.{goes_more, goes_own, goes_other, lines_with-append, no_clusters_in-append, needs-append}

-- ---- entries one behind the other

pub packets-append : (es fs : List Entry) → packets (es ++ fs) ≡ packets es ++ packets fs
packets-append [] fs = refl
packets-append (e ∷ es) fs = ap (λ (z : List Meaning). packets_in (items_of e.event) ++ z) (packets-append es fs) ∙ sym (append_assoc (packets_in (items_of e.event)) (packets es) (packets fs))

pub weigh-append : (es fs : List Entry) → weigh (es ++ fs) ≡ weigh es + weigh fs
weigh-append es fs = merge-weigh es fs (es ++ fs) (merge_append es fs)

pub lawful-append : (b : ℕ) (a : Bool) (es fs : List Entry) → AreLawful b a es → AreLawful b a fs → AreLawful b a (es ++ fs)
lawful-append b a es fs p q = merge-lawful b a es fs (es ++ fs) (merge_append es fs) p q

-- ---- one sender

pub rises_none : (p : Passed) → Rises 0 0 0 p p
rises_none p = record { part = refl; taken_is = omega arith; given_is = omega arith; empty_is = omega arith }

pub rises_more : (a b c x y z : ℕ) (p q w : Passed) → Rises a b c p q → Rises x y z q w → Rises (a + x) (b + y) (c + z) p w
rises_more a b c x y z p q w m n = let e = m.taken_is in let f = m.given_is in let g = m.empty_is in let h = n.taken_is in let i = n.given_is in let j = n.empty_is in
    record { part = n.part ∙ m.part; taken_is = omega arith; given_is = omega arith; empty_is = omega arith }

-- no frame is handled, and nothing is done
pub handled_none : (size : ℕ) (r : Rules) (s k : ℕ) (v : Known) (p : Passed) (old : List AwayLine) → Handled size r s k [] v p old v p old
handled_none size r s k v p old = record {
  es = [];
  stepped = stepped_none v;
  lines = [];
  lines_are = sym (append-nil old);
  taken = 0;
  given = 0;
  empty = 0;
  rises = rises_none p;
  goes = (refl, refl);
  lawful = tt;
  refused = λ n. omega arith;
  out = omega arith;
  found_empty = omega arith;
  bound = λ d. omega arith;
}

-- some frames after others
pub handled_more : (size : ℕ) (r : Rules) (s k : ℕ) (fs gs : List Frame) (u : Known) (p : Passed) (a : List AwayLine) (v : Known) (q : Passed) (b : List AwayLine) (w : Known) (t : Passed) (c : List AwayLine)
    → Handled size r s k fs u p a v q b → Handled size r s (k + length fs) gs v q b w t c → Handled size r s k (fs ++ gs) u p a w t c
handled_more size r s k fs gs u p a v q b w t c x y = record {
  es = x.es ++ y.es;
  stepped = stepped_more u v w x.es y.es x.stepped y.stepped;
  lines = x.lines ++ y.lines;
  lines_are = y.lines_are ∙ ap (λ (z : List AwayLine). z ++ y.lines) x.lines_are ∙ append_assoc a x.lines y.lines;
  taken = x.taken + y.taken;
  given = x.given + y.given;
  empty = x.empty + y.empty;
  rises = rises_more x.taken x.given x.empty y.taken y.given y.empty p q t x.rises y.rises;
  goes = subst (Goes size r s k (fs ++ gs) (x.lines ++ y.lines)) (sym (packets-append x.es y.es)) (goes_more size r s k fs gs x.lines y.lines (packets x.es) (packets y.es) x.goes y.goes);
  lawful = lawful-append r.budget r.abdicate x.es y.es x.lawful y.lawful;
  refused = λ n. (let e = refusals-append n x.es y.es in let f = lines_with-append n x.lines y.lines in let g = x.refused n in let h = y.refused n in omega arith);
  out = (let e = weigh-append x.es y.es in let f = x.out in let g = y.out in omega arith);
  found_empty = (let e = no_clusters_in-append x.lines y.lines in let f = x.found_empty in let g = y.found_empty in omega arith);
  bound = λ d. (let e = no_clusters_in-append x.lines y.lines in let f = needs-append r fs gs in let g = x.bound d in let h = y.bound d in omega arith);
}

-- ---- a part of a run of one sender

zero_counts : (p : Passed) → p.counts ≡ no_counts → (p.counts.taken ≡ 0) × (p.counts.given ≡ 0) × (p.counts.empty ≡ 0)
zero_counts p none = (ap (λ (z : Counts). z.taken) none, ap (λ (z : Counts). z.given) none, ap (λ (z : Counts). z.empty) none)

-- all frames of a sender whose seat and pass had done nothing before
pub handled_sent : (size : ℕ) (r : Rules) (s : ℕ) (fs : List Frame) (v : Known) (p : Passed) (w : Known) (q : Passed) (lines : List AwayLine) → events v ≡ [] → p.counts ≡ no_counts → length fs ≤ 4294967296
    → Handled size r s 0 fs v p [] w q lines → IsSent size r s (fs ∷ []) (lines ∷ []) (events w) q.counts
handled_sent size r s fs v p w q lines silent none few h =
    let all : events w ≡ h.es = h.stepped.made ∙ ap (λ (z : List Entry). z ++ h.es) silent in
    let (taken0, given0, empty0) = zero_counts p none in let rises = h.rises in
    let goes : Goes size r s 0 fs lines (packets (events w)) = subst (λ (z : List AwayLine × List Entry). Goes size r s 0 fs z.0 (packets z.1)) (λ i. (sym h.lines_are i, sym all i)) h.goes in
    let zero : 0 + length fs ≤ 4294967296 = omega arith in
    let refused : (n : ℕ) → lines_with n lines ≤ refusals n (events w) = λ n. subst (λ (z : List AwayLine × List Entry). lines_with n z.0 ≤ refusals n z.1) (λ i. (sym h.lines_are i, sym all i)) (h.refused n) in
    let weight : weigh (events w) ≡ weigh h.es = ap weigh all in let lacks : no_clusters_in lines ≡ no_clusters_in h.lines = ap no_clusters_in h.lines_are in
    let taken_is = rises.taken_is in let given_is = rises.given_is in let empty_is = rises.empty_is in let out = h.out in let found_empty = h.found_empty in record {
      gone = (subst (Goes size r s 0 fs lines) (sym (goes_own size r s 0 fs lines (packets (events w)) zero goes)) goes, tt);
      others = λ k outside. goes_other size r s k 0 fs lines (packets (events w)) (λ e. ⊎_elim (λ (a : k < s). omega arith) (λ (b : s + 1 ≤ k). omega arith) outside) zero goes;
      lawful = subst (AreLawful r.budget r.abdicate) (sym all) h.lawful;
      refused = λ n. (let t = refused n in omega arith);
      out = omega arith;
      empty = omega arith;
      bound = λ d. (let t = h.bound d in omega arith);
    }

-- ---- parts of a run

-- a part without senders, which publishes nothing but kicks
pub kicks_sent : (size : ℕ) (r : Rules) (s : ℕ) (es : List Entry) (c : Counts) → OnlyKicks es → c ≡ no_counts → IsSent size r s [] [] es c
kicks_sent size r s es c only none = let weight = kicks-weigh es only in
    let taken : c.taken ≡ 0 = ap (λ (z : Counts). z.taken) none in let given : c.given ≡ 0 = ap (λ (z : Counts). z.given) none in record {
      gone = tt;
      others = λ k outside. ap (of_sender k) (kicks-packets es only);
      lawful = kicks-lawful r.budget r.abdicate es only;
      refused = λ n. omega arith;
      out = omega arith;
      empty = omega arith;
      bound = λ d. omega arith;
    }

gone_same : (size : ℕ) (r : Rules) (s : ℕ) (fss : List (List Frame)) (lss : List (List AwayLine)) (es zs : List Entry) → ((k : ℕ) → s ≤ k → k < s + length fss → sent_by k es ≡ sent_by k zs) → AreGone size r s fss lss es → AreGone size r s fss lss zs
gone_same size r s [] [] es zs same g = tt
gone_same size r s [] (ls ∷ lss) es zs same g = g
gone_same size r s (fs ∷ fss) [] es zs same g = g
gone_same size r s (fs ∷ fss) (ls ∷ lss) es zs same (g, more) =
    (subst (Goes size r s 0 fs ls) (same s (omega arith) (omega arith)) g, gone_same size r (s + 1) fss lss es zs (λ k lo hi. same k (omega arith) (omega arith)) more)

gone_append : (size : ℕ) (r : Rules) (s : ℕ) (fss gss : List (List Frame)) (lss mss : List (List AwayLine)) (es : List Entry) → AreGone size r s fss lss es → AreGone size r (s + length fss) gss mss es → AreGone size r s (fss ++ gss) (lss ++ mss) es
gone_append size r s [] gss [] mss es g rest = let here : s + 0 ≡ s = omega arith in subst (λ (z : ℕ). AreGone size r z gss mss es) here rest
gone_append size r s [] gss (ls ∷ lss) mss es g rest = absurd g
gone_append size r s (fs ∷ fss) gss [] mss es g rest = absurd g
gone_append size r s (fs ∷ fss) gss (ls ∷ lss) mss es (g, more) rest = let there : s + suc (length fss) ≡ s + 1 + length fss = omega arith in
    (g, gone_append size r (s + 1) fss gss lss mss es more (subst (λ (z : ℕ). AreGone size r z gss mss es) there rest))

all_lines_with-append : (n : ℕ) (xs ys : List (List AwayLine)) → all_lines_with n (xs ++ ys) ≡ all_lines_with n xs + all_lines_with n ys
all_lines_with-append n [] ys = omega arith
all_lines_with-append n (x ∷ xs) ys = let t = all_lines_with-append n xs ys in omega arith

all_no_clusters-append : (xs ys : List (List AwayLine)) → all_no_clusters (xs ++ ys) ≡ all_no_clusters xs + all_no_clusters ys
all_no_clusters-append [] ys = omega arith
all_no_clusters-append (x ∷ xs) ys = let t = all_no_clusters-append xs ys in omega arith

all_needs-append : (r : Rules) (xs ys : List (List Frame)) → all_needs r (xs ++ ys) ≡ all_needs r xs + all_needs r ys
all_needs-append r [] ys = omega arith
all_needs-append r (x ∷ xs) ys = let t = all_needs-append r xs ys in omega arith

-- two parts of a run, the numbers of whose senders follow on each other, are one
pub sent_join : (size : ℕ) (r : Rules) (s t : ℕ) (fss gss : List (List Frame)) (lss mss : List (List AwayLine)) (xs ys zs : List Entry) (c d : Counts) → t ≡ s + length fss
    → IsSent size r s fss lss xs c → IsSent size r t gss mss ys d → IsMerge xs ys zs → IsSent size r s (fss ++ gss) (lss ++ mss) zs (counts_sum c d)
sent_join size r s t fss gss lss mss xs ys zs c d next a b' m =
    let b : IsSent size r (s + length fss) gss mss ys d = subst (λ (z : ℕ). IsSent size r z gss mss ys d) next b' in
    let back : IsMerge ys xs zs = merge_swap xs ys zs m in
    let first : (k : ℕ) → s ≤ k → k < s + length fss → sent_by k xs ≡ sent_by k zs = λ k lo hi. sym (merge-sent k xs ys zs m (b.others k (inl hi))) in
    let second : (k : ℕ) → s + length fss ≤ k → k < s + length fss + length gss → sent_by k ys ≡ sent_by k zs = λ k lo hi. sym (merge-sent k ys xs zs back (a.others k (inr lo))) in
    let many = length-append fss gss in let weight = merge-weigh xs ys zs m in let turned = all_no_clusters-append lss mss in let need = all_needs-append r fss gss in
    let out1 = a.out in let out2 = b.out in let empty1 = a.empty in let empty2 = b.empty in record {
      gone = gone_append size r s fss gss lss mss zs (gone_same size r s fss lss xs zs first a.gone) (gone_same size r (s + length fss) gss mss ys zs second b.gone);
      others = λ k outside. ⊎_elim
          (λ (lo : k < s). merge-sent k xs ys zs m (b.others k (inl (omega arith))) ∙ a.others k (inl lo))
          (λ (hi : s + length (fss ++ gss) ≤ k). merge-sent k xs ys zs m (b.others k (inr (omega arith))) ∙ a.others k (inr (omega arith))) outside;
      lawful = merge-lawful r.budget r.abdicate xs ys zs m a.lawful b.lawful;
      refused = λ n. (let e = merge-refusals n xs ys zs m in let f = all_lines_with-append n lss mss in let g = a.refused n in let h = b.refused n in omega arith);
      out = omega arith;
      empty = omega arith;
      bound = λ dr. (let f = a.bound dr in let g = b.bound dr in omega arith);
    }
