-- One frame of a sender, however it went.
use Rattle.std.proofs.Common.{◌≡◌, ℕ, ◌+◌, ◌<◌, ◌≤◌, eqb, List, [], ◌∷◌, ◌++◌, length, append-nil, sym, refl, ap, ◌∙◌, subst, inl, inr, arith, eq-eqb, ne_eqb}
use Rattle.std.specs.Prelude.{Some, None}
use mathlib.Core.Logic.{dite}
use native.Mathlib.Decide.{ℕ_discrete}
use Rattle.ifl_base.specs.declared.judged.Judged.{Judged}
use Rattle.ifl_base.specs.declared.judged.Judged.TheVariants as judged
use Rattle.ifl_base.specs.declared.word.RingWord.{RingWord}
use Rattle.ifl_base.specs.Word.{pack}
use Rattle.ifl_pcap.specs.declared.frame.Frame.{Frame}
use Rattle.ifl_pool.specs.declared.known.Known.{Known as Passed}
use Rattle.ifl_ring.specs.declared.view.Known.{Known}
use Rattle.ifl_ringcore.specs.Counters.{one_if}
use Rattle.ifl_ringcore.specs.declared.history.Entry.{Entry}
use Rattle.ifl_ringcore.specs.declared.history.Meaning.{Meaning}
use Rattle.ifl_base.specs.declared.fate.Away.TheVariants as away
use Rattle.ifl_line.specs.declared.away_line.AwayLine.{AwayLine}
use Rattle.ifl_line.specs.declared.rules.Rules.{Rules}
use Rattle.ifl_line.specs.declared.rules.Policy.TheVariants.{Drop}
use Rattle.ifl_line.specs.Needs.{clusters_needed}
use Rattle.ifl_line.specs.Meanings.{packet_of}
use Rattle.ifl_line.specs.Frames.{IsFit, line_of, need_by, judged_of, needs}
use Rattle.ifl_line.specs.Sent.{Rises, Handled}
use Rattle.ifl_line.specs.Steps.{packets, refusals, Stepped, OnlyKicks, IsPublished, IsOffered}
use Rattle.ifl_line.proofs.Going.{is_packet_of}
use Rattle.ifl_line.proofs.Joining.{packets-append, weigh-append, lawful-append, rises_none, rises_more}
use Rattle.ifl_line.proofs.Stepping.{stepped_none, stepped_more, refusals-append, kicks-packets, kicks-weigh, kicks-lawful, kicks-quiet, published-packets, published-weigh, published-lawful}

-- what a sender did before it offered its packet: it published nothing but kicks, and holds n clusters
pub record Held (r : Rules) (n : ℕ) (v : Known) (p : Passed) (u : Known) (q : Passed) : Type 0 where
  pub es : List Entry
  pub stepped : Stepped v es u
  pub only : OnlyKicks es
  pub given : ℕ
  pub empty : ℕ
  pub rises : Rises (given + n) given empty p q
  pub once : r.policy ≡ Drop → given ≡ 0

fit_need : (r : Rules) (f : Frame) → IsFit r f → needs r (f ∷ []) ≡ clusters_needed r.seg_bytes (length f.bytes)
fit_need r f fit = let n : ℕ = clusters_needed r.seg_bytes (length f.bytes) in let e : need_by (judged_of r f) n ≡ n = ap (λ (z : Judged). need_by z n) fit in omega arith

-- it was published
pub handled_accepted : (size : ℕ) (r : Rules) (s k : ℕ) (f : Frame) (m : Meaning) (v : Known) (p : Passed) (u : Known) (q : Passed) (w : Known) (t : Passed) (old : List AwayLine) → s < 65536 → k < 4294967296 → IsFit r f → m ≡ packet_of r.seg_bytes s k f
    → Held r (clusters_needed r.seg_bytes (length f.bytes)) v p u q → (es : List Entry) × Stepped u es w × IsOffered size r.budget r.abdicate (m ∷ []) None es → Rises 0 0 0 q t → Handled size r s k (f ∷ []) v p old w t old
handled_accepted size r s k f m v p u q w t old low small fit is h (fs, stepped, offered) same =
    let packet : Meaning = packet_of r.seg_bytes s k f in let is_one = is_packet_of r.seg_bytes s k f low small in
    let done : IsPublished r.budget r.abdicate (packet ∷ []) fs = subst (λ (z : Meaning). IsPublished r.budget r.abdicate (z ∷ []) fs) is offered in
    let sent : packets (h.es ++ fs) ≡ packet ∷ [] = packets-append h.es fs ∙ ap (λ (z : List Meaning). z ++ packets fs) (kicks-packets h.es h.only) ∙ published-packets r.budget r.abdicate packet fs is_one done in
    let w1 = weigh-append h.es fs in let w2 = kicks-weigh h.es h.only in let w3 = published-weigh r.budget r.abdicate packet fs done in let need = fit_need r f fit in
    let n : ℕ = clusters_needed r.seg_bytes (length f.bytes) in record {
      es = h.es ++ fs;
      stepped = stepped_more v u w h.es fs h.stepped stepped;
      lines = [];
      lines_are = sym (append-nil old);
      taken = h.given + n + 0;
      given = h.given + 0;
      empty = h.empty + 0;
      rises = rises_more (h.given + n) h.given h.empty 0 0 0 p q t h.rises same;
      goes = inl ([], fit, sent, (refl, refl));
      lawful = lawful-append r.budget r.abdicate h.es fs (kicks-lawful r.budget r.abdicate h.es h.only) (published-lawful r.budget r.abdicate packet fs is_one done);
      refused = λ n. omega arith;
      out = omega arith;
      found_empty = omega arith;
      bound = λ d. (let z = h.once d in omega arith);
    }

-- there was no room for it
pub handled_no_buffers : (size : ℕ) (r : Rules) (s k : ℕ) (f : Frame) (m : Meaning) (seen : RingWord) (v : Known) (p : Passed) (u : Known) (q : Passed) (w : Known) (t : Passed) (old new : List AwayLine) → IsFit r f → r.policy ≡ Drop → new ≡ old ++ line_of s k (away.NoBuffers seen) ∷ []
    → Held r (clusters_needed r.seg_bytes (length f.bytes)) v p u q → (es : List Entry) × Stepped u es w × IsOffered size r.budget r.abdicate (m ∷ []) (Some seen) es → Rises 0 (clusters_needed r.seg_bytes (length f.bytes)) 0 q t → Handled size r s k (f ∷ []) v p old w t new
handled_no_buffers size r s k f m seen v p u q w t old new fit drops line h (fs, stepped, (quiet, counted, full, within)) back =
    let only : OnlyKicks fs = kicks-quiet fs quiet in
    let sent : packets (h.es ++ fs) ≡ [] = packets-append h.es fs ∙ ap (λ (z : List Meaning). z ++ packets fs) (kicks-packets h.es h.only) ∙ kicks-packets fs only in
    let w1 = weigh-append h.es fs in let w2 = kicks-weigh h.es h.only in let w3 = kicks-weigh fs only in let need = fit_need r f fit in
    let n : ℕ = clusters_needed r.seg_bytes (length f.bytes) in record {
      es = h.es ++ fs;
      stepped = stepped_more v u w h.es fs h.stepped stepped;
      lines = line_of s k (away.NoBuffers seen) ∷ [];
      lines_are = line;
      taken = h.given + n + 0;
      given = h.given + n;
      empty = h.empty + 0;
      rises = rises_more (h.given + n) h.given h.empty 0 n 0 p q t h.rises back;
      goes = inr (away.NoBuffers seen, [], (fit, drops, full, within), refl, (refl, sent));
      lawful = lawful-append r.budget r.abdicate h.es fs (kicks-lawful r.budget r.abdicate h.es h.only) (kicks-lawful r.budget r.abdicate fs only);
      refused = λ j. (let e = refusals-append j h.es fs in dite (ℕ_discrete (pack seen) j)
          (λ same. let g : 1 ≤ refusals j fs = subst (λ (z : ℕ). 1 ≤ refusals z fs) same counted in let b : one_if (eqb (pack seen) j) ≡ 1 = ap one_if (eq-eqb (pack seen) j same) in omega arith)
          (λ other. let b : one_if (eqb (pack seen) j) ≡ 0 = ap one_if (ne_eqb (pack seen) j other) in omega arith));
      out = omega arith;
      found_empty = omega arith;
      bound = λ d. (let z = h.once d in omega arith);
    }

-- the pool had no cluster for it
pub handled_no_clusters : (size : ℕ) (r : Rules) (s k j : ℕ) (f : Frame) (v : Known) (p : Passed) (w : Known) (t : Passed) (old new : List AwayLine) → IsFit r f → r.policy ≡ Drop → new ≡ old ++ line_of s k away.NoClusters ∷ []
    → (es : List Entry) × Stepped v es w × OnlyKicks es → j < clusters_needed r.seg_bytes (length f.bytes) → Rises j j 1 p t → Handled size r s k (f ∷ []) v p old w t new
handled_no_clusters size r s k j f v p w t old new fit drops line (es, stepped, only) fewer rises = let w1 = kicks-weigh es only in let need = fit_need r f fit in record {
  es = es;
  stepped = stepped;
  lines = line_of s k away.NoClusters ∷ [];
  lines_are = line;
  taken = j;
  given = j;
  empty = 1;
  rises = rises;
  goes = inr (away.NoClusters, [], (fit, drops), refl, (refl, kicks-packets es only));
  lawful = kicks-lawful r.budget r.abdicate es only;
  refused = λ n. omega arith;
  out = omega arith;
  found_empty = omega arith;
  bound = λ d. omega arith;
}

-- it is no frame to send
pub handled_runt : (size : ℕ) (r : Rules) (s k : ℕ) (f : Frame) (v : Known) (p : Passed) (old new : List AwayLine) → judged_of r f ≡ judged.Runt → new ≡ old ++ line_of s k away.Runt ∷ [] → Handled size r s k (f ∷ []) v p old v p new
handled_runt size r s k f v p old new is line = record {
  es = [];
  stepped = stepped_none v;
  lines = line_of s k away.Runt ∷ [];
  lines_are = line;
  taken = 0;
  given = 0;
  empty = 0;
  rises = rises_none p;
  goes = inr (away.Runt, [], is, refl, (refl, refl));
  lawful = tt;
  refused = λ n. omega arith;
  out = omega arith;
  found_empty = omega arith;
  bound = λ d. omega arith;
}

pub handled_oversize : (size : ℕ) (r : Rules) (s k : ℕ) (f : Frame) (v : Known) (p : Passed) (old new : List AwayLine) → judged_of r f ≡ judged.Oversize → new ≡ old ++ line_of s k away.Oversize ∷ [] → Handled size r s k (f ∷ []) v p old v p new
handled_oversize size r s k f v p old new is line = record {
  es = [];
  stepped = stepped_none v;
  lines = line_of s k away.Oversize ∷ [];
  lines_are = line;
  taken = 0;
  given = 0;
  empty = 0;
  rises = rises_none p;
  goes = inr (away.Oversize, [], is, refl, (refl, refl));
  lawful = tt;
  refused = λ n. omega arith;
  out = omega arith;
  found_empty = omega arith;
  bound = λ d. omega arith;
}
