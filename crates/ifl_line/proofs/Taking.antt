-- The jobs of a run, one after another.
use Rattle.std.proofs.Common.{◌≡◌, ℕ, zero, suc, ◌+◌, ◌<◌, List, [], ◌∷◌, ◌++◌, length, append-nil, sym, refl, ap, ◌∙◌, subst, arith}
use Rattle.std.specs.Prelude.{slice_index_or}
use Rattle.ifl_pcap.specs.declared.capture.Capture.{Capture}
use Rattle.ifl_pcap.specs.declared.frame.Frame.{Frame}
use Rattle.ifl_pool.specs.declared.history.Counts.{Counts}
use Rattle.ifl_pool.specs.declared.known.Known.{Known as Passed}
use Rattle.ifl_pool.specs.History.{no_counts, counts_sum}
use Rattle.ifl_pool.specs.Passes.{Joined as PassesJoined}
use Rattle.ifl_ring.specs.declared.view.Known.{Known}
use Rattle.ifl_ring.specs.Merges.{IsMerge}
use Rattle.ifl_ring.specs.Seats.{events}
use Rattle.ifl_ringcore.specs.declared.history.Entry.{Entry}
use Rattle.ifl_line.specs.declared.away_line.AwayLine.{AwayLine}
use Rattle.ifl_line.specs.declared.gathering.Ended.{Ended}
use Rattle.ifl_line.specs.declared.jobs.Job.{Job}
use Rattle.ifl_line.specs.declared.jobs.Task.{Task}
use Rattle.ifl_line.specs.declared.jobs.Task.TheVariants.{Work, Send, Done}
use Rattle.ifl_line.specs.declared.line.Line.{Line}
use Rattle.ifl_line.specs.declared.rules.Rules.{Rules}
use Rattle.ifl_line.specs.Jobs.{MayDo, HasDone, MayBegin, HasEnded}
use Rattle.ifl_line.specs.Sent.{IsSent}
use Rattle.ifl_line.specs.Steps.{OnlyKicks, Stepped}
use Rattle.ifl_line.specs.Works.{AllDone, AreAt, AreSet, AreDone, captures_in, ended_in, files_in, turned_in, tasks_of, ring_parts, turn_parts, pass_parts}
use Rattle.ifl_line.proofs.Joining.{sent_join, kicks_sent}
use Rattle.ifl_line.proofs.Merging.{merge_append}

-- ---- what senders leave, one behind the other

files_in-append : (xs ys : List Ended) → files_in (xs ++ ys) ≡ files_in xs ++ files_in ys
files_in-append [] ys = refl
files_in-append (x ∷ xs) ys = ap (λ (z : List (List Frame)). x.capture.frames ∷ z) (files_in-append xs ys)

turned_in-append : (xs ys : List Ended) → turned_in (xs ++ ys) ≡ turned_in xs ++ turned_in ys
turned_in-append [] ys = refl
turned_in-append (x ∷ xs) ys = ap (λ (z : List (List AwayLine)). x.away.items ∷ z) (turned_in-append xs ys)

length-files_in : (xs : List Ended) → length (files_in xs) ≡ length xs
length-files_in [] = refl
length-files_in (x ∷ xs) = ap suc (length-files_in xs)

with_none : (c : Counts) → counts_sum c no_counts ≡ c
with_none c = λ i. record { taken = (let z : c.taken + 0 ≡ c.taken = omega arith in z) i; given = (let z : c.given + 0 ≡ c.given = omega arith in z) i; empty = (let z : c.empty + 0 ≡ c.empty = omega arith in z) i }

-- the next sender
pub sender_taken : (size : ℕ) (r : Rules) (xs : List Ended) (x : Ended) (v w t : Known) (p q o : Passed) → IsMerge (events v) (events w) (events t) → PassesJoined p q o
    → IsSent size r 0 (files_in xs) (turned_in xs) (events v) p.counts → IsSent size r (length xs) (x.capture.frames ∷ []) (x.away.items ∷ []) (events w) q.counts
    → IsSent size r 0 (files_in (xs ++ x ∷ [])) (turned_in (xs ++ x ∷ [])) (events t) o.counts
sender_taken size r xs x v w t p q o merged (passes, _, _) before mine =
    let counts : o.counts ≡ counts_sum p.counts q.counts = ap (λ (z : Passed). z.counts) passes in
    let next : length xs ≡ 0 + length (files_in xs) = (let e = length-files_in xs in omega arith) in
    subst (λ (z : List (List Frame) × List (List AwayLine) × Counts). IsSent size r 0 z.0 z.1 (events t) z.2) (λ i. (sym (files_in-append xs (x ∷ [])) i, sym (turned_in-append xs (x ∷ [])) i, sym counts i))
    (sent_join size r 0 (length xs) (files_in xs) (x.capture.frames ∷ []) (turned_in xs) (x.away.items ∷ []) (events v) (events w) (events t) p.counts q.counts next before mine merged)

-- entries that publish nothing but kicks, merged in
kicks_taken : (size : ℕ) (r : Rules) (xs : List Ended) (es fs all : List Entry) (c : Counts) → IsMerge es fs all → OnlyKicks fs → IsSent size r 0 (files_in xs) (turned_in xs) es c → IsSent size r 0 (files_in xs) (turned_in xs) all c
kicks_taken size r xs es fs all c merged only before =
    let next : length xs ≡ 0 + length (files_in xs) = (let e = length-files_in xs in omega arith) in
    subst (λ (z : List (List Frame) × List (List AwayLine) × Counts). IsSent size r 0 z.0 z.1 all z.2) (λ i. (append-nil (files_in xs) i, append-nil (turned_in xs) i, with_none c i))
    (sent_join size r 0 (length xs) (files_in xs) [] (turned_in xs) [] es fs all c no_counts next before (kicks_sent size r (length xs) fs no_counts only refl) merged)

-- the worker
pub worker_taken : (size : ℕ) (r : Rules) (xs : List Ended) (v w t : Known) (c : Counts) → IsMerge (events v) (events w) (events t) → OnlyKicks (events w) → IsSent size r 0 (files_in xs) (turned_in xs) (events v) c → IsSent size r 0 (files_in xs) (turned_in xs) (events t) c
worker_taken size r xs v w t c merged only before = kicks_taken size r xs (events v) (events w) (events t) c merged only before

-- kicks behind a part of a run
pub kicks_behind : (size : ℕ) (r : Rules) (xs : List Ended) (v w : Known) (es : List Entry) (c : Counts) → Stepped v es w → OnlyKicks es → IsSent size r 0 (files_in xs) (turned_in xs) (events v) c → IsSent size r 0 (files_in xs) (turned_in xs) (events w) c
kicks_behind size r xs v w es c stepped only before = subst (λ (z : List Entry). IsSent size r 0 (files_in xs) (turned_in xs) z c) (sym stepped.made) (kicks_taken size r xs (events v) es (events v ++ es) c (merge_append (events v) es) only before)

-- ---- lists of tasks

module _ {R A B C : Type 0} where
  pub ended_in-append : (xs ys : List (Task R A B C)) → ended_in (xs ++ ys) ≡ ended_in xs ++ ended_in ys
  ended_in-append [] ys = refl
  ended_in-append (Work x ∷ xs) ys = ended_in-append xs ys
  ended_in-append (Send x ∷ xs) ys = ap (λ (z : List Ended). record { capture = x.capture; away = x.sender.away } ∷ z) (ended_in-append xs ys)
  ended_in-append (Done ∷ xs) ys = ended_in-append xs ys

  pub captures_in-append : (xs ys : List (Task R A B C)) → captures_in (xs ++ ys) ≡ captures_in xs ++ captures_in ys
  captures_in-append [] ys = refl
  captures_in-append (Work x ∷ xs) ys = captures_in-append xs ys
  captures_in-append (Send x ∷ xs) ys = ap (λ (z : List Capture). x.capture ∷ z) (captures_in-append xs ys)
  captures_in-append (Done ∷ xs) ys = captures_in-append xs ys

  pub ring_parts-append : (xs ys : List (Task R A B C)) → ring_parts (xs ++ ys) ≡ ring_parts xs + ring_parts ys
  ring_parts-append [] ys = omega arith
  ring_parts-append (Work x ∷ xs) ys = let t = ring_parts-append xs ys in omega arith
  ring_parts-append (Send x ∷ xs) ys = let t = ring_parts-append xs ys in omega arith
  ring_parts-append (Done ∷ xs) ys = ring_parts-append xs ys

  pub turn_parts-append : (xs ys : List (Task R A B C)) → turn_parts (xs ++ ys) ≡ turn_parts xs + turn_parts ys
  turn_parts-append [] ys = omega arith
  turn_parts-append (Work x ∷ xs) ys = let t = turn_parts-append xs ys in omega arith
  turn_parts-append (Send x ∷ xs) ys = let t = turn_parts-append xs ys in omega arith
  turn_parts-append (Done ∷ xs) ys = turn_parts-append xs ys

  pub pass_parts-append : (xs ys : List (Task R A B C)) → pass_parts (xs ++ ys) ≡ pass_parts xs + pass_parts ys
  pass_parts-append [] ys = omega arith
  pass_parts-append (Work x ∷ xs) ys = pass_parts-append xs ys
  pass_parts-append (Send x ∷ xs) ys = let t = pass_parts-append xs ys in omega arith
  pass_parts-append (Done ∷ xs) ys = pass_parts-append xs ys

  pub tasks_of-append : (xs ys : List (Job R A B C)) → tasks_of (xs ++ ys) ≡ tasks_of xs ++ tasks_of ys
  tasks_of-append [] ys = refl
  tasks_of-append (x ∷ xs) ys = ap (λ (z : List (Task R A B C)). x.task ∷ z) (tasks_of-append xs ys)

  pub at-append : (line : Line R A B C) (xs ys : List (Job R A B C)) → AreAt line xs → AreAt line ys → AreAt line (xs ++ ys)
  at-append line [] ys a b = b
  at-append line (x ∷ xs) ys (is, a) b = (is, at-append line xs ys a b)

  -- the first of some tasks, and the others
  pub done_first : (line : Line R A B C) (s : ℕ) (x : Task R A B C) (xs : List (Task R A B C)) → AreDone line s (x ∷ xs) → AreDone line s (x ∷ [])
  done_first line s (Work x) xs (is, only, more) = (is, only, tt)
  done_first line s (Send x) xs (of, sent, more) = (of, sent, tt)
  done_first line s Done xs more = tt

  pub done_rest : (line : Line R A B C) (s : ℕ) (x : Task R A B C) (xs : List (Task R A B C)) → AreDone line s (x ∷ xs) → AreDone line (s + length (ended_in (x ∷ []))) xs
  done_rest line s (Work x) xs (is, only, more) = let e : s + 0 ≡ s = omega arith in subst (λ (z : ℕ). AreDone line z xs) (sym e) more
  done_rest line s (Send x) xs (of, sent, more) = more
  done_rest line s Done xs more = let e : s + 0 ≡ s = omega arith in subst (λ (z : ℕ). AreDone line z xs) (sym e) more

  -- further tasks behind
  pub set_more : (line : Line R A B C) (s : ℕ) (xs ys : List (Task R A B C)) → AreSet line s xs → AreSet line (s + length (captures_in xs)) ys → AreSet line s (xs ++ ys)
  set_more line s [] ys a b = let e : s + 0 ≡ s = omega arith in subst (λ (z : ℕ). AreSet line z ys) e b
  set_more line s (Work x ∷ xs) ys (may, silent, more) b = (may, silent, set_more line s xs ys more b)
  set_more line s (Send x ∷ xs) ys (may, is, more) b = let e : s + suc (length (captures_in xs)) ≡ s + 1 + length (captures_in xs) = omega arith in
      (may, is, set_more line (s + 1) xs ys more (subst (λ (z : ℕ). AreSet line z ys) e b))
  set_more line s (Done ∷ xs) ys more b = set_more line s xs ys more b

  set_first : (line : Line R A B C) (s : ℕ) (x : Task R A B C) (xs : List (Task R A B C)) → AreSet line s (x ∷ xs) → MayDo line x
  set_first line s (Work x) xs (may, silent, more) = may
  set_first line s (Send x) xs (may, is, more) = may
  set_first line s Done xs more = tt

  set_rest : (line : Line R A B C) (s : ℕ) (x : Task R A B C) (xs : List (Task R A B C)) → AreSet line s (x ∷ xs) → (t : ℕ) × AreSet line t xs
  set_rest line s (Work x) xs (may, silent, more) = (s, more)
  set_rest line s (Send x) xs (may, is, more) = (s + 1, more)
  set_rest line s Done xs more = (s, more)

  -- each job may begin
  pub set_may : (line : Line R A B C) (s : ℕ) (js : List (Job R A B C)) → AreAt line js → AreSet line s (tasks_of js) → (i : ℕ) (d : Job R A B C) → i < length js → MayBegin (slice_index_or js i d)
  set_may line s [] at a i d lt = absurd (omega arith)
  set_may line s (j ∷ js) (is, at) a zero d lt = subst (λ (z : Line R A B C). MayDo z j.task) (sym is) (set_first line s j.task (tasks_of js) a)
  set_may line s (j ∷ js) (is, at) a (suc i) d lt = let rest = set_rest line s j.task (tasks_of js) a in set_may line rest.0 js at rest.1 i d (omega arith)

  -- each has done its task
  abbrev EachDone : Line R A B C → List (Task R A B C) → List (Task R A B C) → Type 0
  EachDone line [] [] = Unit {0}
  EachDone line [] (y ∷ ys) = ⊥
  EachDone line (x ∷ xs) [] = ⊥
  EachDone line (x ∷ xs) (y ∷ ys) = HasDone line x y × EachDone line xs ys

  all_done : (line : Line R A B C) (s : ℕ) (xs ys : List (Task R A B C)) → AreSet line s xs → EachDone line xs ys → AllDone line s xs ys
  all_done line s [] [] set each = record { done = tt; captures = refl; rings = refl; turns = refl; passes = refl }
  all_done line s [] (y ∷ ys) set each = absurd each
  all_done line s (x ∷ xs) [] set each = absurd each
  all_done line s (Work x ∷ xs) (Work y ∷ ys) (may, silent, set) (h, each) =
      let rest = all_done line s xs ys set each in
      let made : events y.seats.ring.known ≡ h.es = h.stepped.made ∙ ap (λ (z : List Entry). z ++ h.es) silent in
      let part : y.seats.ring.known.part ≡ x.seats.ring.known.part = ap (λ (z : Known). z.part) h.stepped.is in let turn = h.turn_part in let more = rest.rings in let turns = rest.turns in record {
        done = (h.of, subst OnlyKicks (sym made) h.only, rest.done);
        captures = rest.captures;
        rings = omega arith;
        turns = omega arith;
        passes = rest.passes;
      }
  all_done line s (Work x ∷ xs) (Send y ∷ ys) set (h, each) = absurd h
  all_done line s (Work x ∷ xs) (Done ∷ ys) set (h, each) = absurd h
  all_done line s (Send x ∷ xs) (Work y ∷ ys) set (h, each) = absurd h
  all_done line s (Send x ∷ xs) (Done ∷ ys) set (h, each) = absurd h
  all_done line s (Done ∷ xs) (Work y ∷ ys) set (h, each) = absurd h
  all_done line s (Done ∷ xs) (Send y ∷ ys) set (h, each) = absurd h
  all_done line s (Done ∷ xs) (Done ∷ ys) set (h, each) =
      let rest = all_done line s xs ys set each in record { done = rest.done; captures = rest.captures; rings = rest.rings; turns = rest.turns; passes = rest.passes }
  all_done line s (Send x ∷ xs) (Send y ∷ ys) (may, is, set) (h, each) =
      let rest = all_done line (s + 1) xs ys set each in
      let ring = h.parts.ring_part in let turn = h.parts.turn_part in let pass = h.parts.pass_part in let rings = rest.rings in let turns = rest.turns in let passes = rest.passes in record {
        done = (h.of, subst (λ (z : ℕ × List Frame). IsSent line.ring.size line.rules z.0 (z.1 ∷ []) (y.sender.away.items ∷ []) (events y.hands.seats.ring.known) y.hands.pass.known.counts) (λ i. (is i, (sym h.capture i).frames)) h.sent, rest.done);
        captures = (λ i. h.capture i ∷ rest.captures i);
        rings = omega arith;
        turns = omega arith;
        passes = omega arith;
      }

  each_done : (line : Line R A B C) (js ks : List (Job R A B C)) → length ks ≡ length js → AreAt line js → ((i : ℕ) (d : Job R A B C) → i < length js → HasEnded (slice_index_or js i d) (slice_index_or ks i d)) → EachDone line (tasks_of js) (tasks_of ks)
  each_done line [] [] long at each = tt
  each_done line [] (k ∷ ks) long at each = absurd (omega arith)
  each_done line (j ∷ js) [] long at each = absurd (omega arith)
  each_done line (j ∷ js) (k ∷ ks) long (is, at) each =
      let h : HasEnded j k = each 0 j (omega arith) in
      (subst (λ (z : Line R A B C). HasDone z j.task k.task) is h.done, each_done line js ks (omega arith) at (λ i d lt. each (suc i) d (omega arith)))

  -- jobs that ended are done
  pub ended_done : (line : Line R A B C) (js ks : List (Job R A B C)) → AreAt line js → AreSet line 0 (tasks_of js) → length ks ≡ length js
      → ((i : ℕ) (d : Job R A B C) → i < length js → HasEnded (slice_index_or js i d) (slice_index_or ks i d)) → AllDone line 0 (tasks_of js) (tasks_of ks)
  ended_done line js ks at set long each = all_done line 0 (tasks_of js) (tasks_of ks) set (each_done line js ks long at each)
