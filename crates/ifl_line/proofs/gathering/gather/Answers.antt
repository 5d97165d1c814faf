use Rattle.std.proofs.Common.{◌≡◌, ◌∷◌, ◌++◌, ◌+◌, [], ◌<◌, List, length, ℕ, refl, sym, subst, ap, ◌∙◌, append_assoc, length-append, length-set, arith, drop, set}
use Rattle.std.specs.Prelude.{slice_index_or}
use Rattle.std.proofs.lemmas.List.{drop_more, drop-set-lt}
use Rattle.ifl_line.proofs.Taking.{done_rest, ended_in-append, pass_parts-append, ring_parts-append, turn_parts-append}
use Rattle.ifl_line.specs.declared.gathering.Ended.{Ended}
use Rattle.ifl_line.specs.declared.jobs.Job.{Job}
use Rattle.ifl_ring.specs.Seats.{events}
use Rattle.ifl_line.specs.Sent.{IsSent}
use Rattle.ifl_line.specs.Works.{AreDone, ended_in, files_in, turned_in, tasks_of}
use Rattle.ifl_line.proofs.Joining.{kicks_sent}
use Rattle.ifl_line.proofs.Stepping.{silent_kicks}
use Rattle.ifl_line.proofs.gathering.gather.Goals as goal

pub loop-index-init : goal.loop-index-init
loop-index-init g c = let line = c.args.line.now in let none = c.requires.room.0 in let room = c.requires.room.1 in let empty = ap length none in let ok = c.args.ended.ok in (
  [],
  refl,
  c.requires.own,
  none,
  subst (λ (z : List Ended). IsSent line.ring.size line.rules 0 (files_in z) (turned_in z) (events c.args.hands.now.seats.ring.known) c.args.hands.now.pass.known.counts) (sym none)
      (kicks_sent line.ring.size line.rules 0 (events c.args.hands.now.seats.ring.known) c.args.hands.now.pass.known.counts (silent_kicks (events c.args.hands.now.seats.ring.known) c.requires.fresh.silent) c.requires.fresh.none),
  subst (λ (z : List Ended). AreDone line (length z) (tasks_of c.args.jobs.now)) (sym none) c.requires.done,
  omega arith,
  omega arith,
  omega arith,
  omega arith,
  refl,
)

pub loop-index-preserved : goal.loop-index-preserved
loop-index-preserved g c = let line = c.args.line.now in let at = c.loop-index in let i = at.invariant in let x = c.index-jobs-index.result in let t = c.replace-task.result in
    let long = i.10 in let under = c.loop-index-test.true in
    let lt : at.index < length at.jobs = omega arith in
    let rest : List (Job _ _ _ _) = drop (at.index + 1) at.jobs in
    let y : Job _ _ _ _ = record { line = (slice_index_or at.jobs at.index x).line; task = c.replace-task.new.dest } in
    let after : drop (at.index + 1) (set at.jobs at.index y) ≡ rest = drop-set-lt (at.index + 1) at.jobs at.index y (omega arith) in
    let steps : tasks_of (drop at.index at.jobs) ≡ t ∷ tasks_of rest = ap tasks_of (drop_more at.jobs at.index x lt) ∙ (λ k. sym c.replace-task.ensures.value k ∷ tasks_of rest) in
    let ended = c.take_in.ensures.ended in
    let n : ℕ = length at.ended.items in
    let place : n + length (ended_in (t ∷ [])) ≡ length c.take_in.new.ended.items = sym (ap length ended ∙ length-append at.ended.items (ended_in (t ∷ []))) in
    let done : AreDone line n (t ∷ tasks_of rest) = subst (AreDone line n) steps i.5 in
    let rings = c.take_in.ensures.ring in let turns = c.take_in.ensures.turn in let passes = c.take_in.ensures.pass in
    let a = ring_parts-append i.0 (t ∷ []) in let d = turn_parts-append i.0 (t ∷ []) in let b = pass_parts-append i.0 (t ∷ []) in
    let had = i.6 in let turned = i.7 in let held = i.8 in let room = i.9 in let kept = c.take_in.ensures.room.0 in let more = c.take_in.ensures.room.1 in let many = length-set at.jobs at.index y in (
      i.0 ++ t ∷ [],
      i.1 ∙ ap (λ z. i.0 ++ z) steps ∙ sym (append_assoc i.0 (t ∷ []) (tasks_of rest)) ∙ ap (λ (z : List (Job _ _ _ _)). (i.0 ++ t ∷ []) ++ tasks_of z) (sym after),
      c.take_in.ensures.own,
      ended ∙ (λ k. i.3 k ++ ended_in (t ∷ [])) ∙ sym (ended_in-append i.0 (t ∷ [])),
      c.take_in.ensures.sent,
      subst (λ (z : ℕ × List (Job _ _ _ _)). AreDone line z.0 (tasks_of z.1)) (λ k. (place k, sym after k)) (done_rest line n t (tasks_of rest) done),
      omega arith,
      omega arith,
      omega arith,
      omega arith,
      omega arith,
    )
