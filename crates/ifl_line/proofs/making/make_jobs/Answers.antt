use Rattle.std.proofs.Common.{◌≡◌, ◌∷◌, ◌++◌, ◌+◌, ◌*◌, [], List, ℕ, length, refl, sym, subst, ap, ◌∙◌, append_assoc, length-append, arith}
use Rattle.std.specs.Vec.Iter.{into_iter_items}
use Rattle.ifl_line.specs.declared.jobs.Job.{Job}
use Rattle.ifl_line.specs.declared.jobs.Task.{Task}
use Rattle.ifl_line.specs.declared.jobs.Task.TheVariants.{Work, Send}
use Rattle.ifl_line.specs.declared.making.Load.{Load}
use Rattle.ifl_line.specs.Loads.{AreLoads}
use Rattle.ifl_line.specs.Works.{AreAt, AreSet, captures_in, tasks_of, ring_parts, turn_parts, pass_parts}
use Rattle.ifl_line.proofs.Doubling.{doubled, doubled-some, doubled-within}
use Rattle.ifl_line.proofs.Loading.{length-loaded, loaded-append}
use Rattle.ifl_line.proofs.Taking.{at-append, captures_in-append, pass_parts-append, ring_parts-append, set_more, tasks_of-append, turn_parts-append}
use Rattle.ifl_line.proofs.making.make_jobs.Goals as goal

pub loop-load-init : goal.loop-load-init
loop-load-init g c = let line = c.args.line.now in let gives = c.into_iter-load-iterator.ensures.into_iter_gives in let w = c.make_worker-worker.result in let made = c.make_worker-worker.ensures in
    let all : into_iter_items c.into_iter-load-iterator.result ≡ c.args.loads.items = gives.0 in let many = gives.1 in let long = ap length all in let few = c.requires.loads.0 in
    let bound = doubled-within (length (into_iter_items c.into_iter-load-iterator.result)) (omega arith) in
    let rings = made.ring.0 in let less = made.ring.1 in let turns = made.turn.0 in let fewer = made.turn.1 in let passes = made.pass in let had = c.requires.part.0 in let turned = c.requires.part.1 in let held = c.requires.part.2 in
    let j : Job _ _ _ _ = record { line = c.args.line; task = Work w } in
    let only : c.push_reserved.new.self.items ≡ j ∷ [] = c.push_reserved.ensures.items ∙ (λ k. c.requires.room.0 k ++ j ∷ []) in
    let tasks : tasks_of c.push_reserved.new.self.items ≡ Work w ∷ [] = ap tasks_of only in
    let one = ap length only in let empty = ap length c.requires.room.0 in let len = c.push_reserved.ensures.len in let kept = c.push_reserved.ensures.capacity in let room = c.requires.room.1 in let ok = c.args.room.ok in (
      refl,
      omega arith,
      made.own.0,
      made.own.1,
      omega arith,
      omega arith,
      omega arith,
      subst (AreLoads 0) (sym all) c.requires.loads.1,
      subst (λ (z : List (Job _ _ _ _)). AreAt line z) (sym only) (refl, tt),
      subst (λ (z : List (Task _ _ _ _)). AreSet line 0 z) (sym tasks) (made.worker.0, made.worker.1, tt),
      ap captures_in tasks,
      refl,
      refl,
      refl,
      omega arith,
      omega arith,
    )

pub make_runner-runner-requires-clause-part : goal.make_runner-runner-requires-clause-part
make_runner-runner-requires-clause-part g c κs within = let at = c.loop-load in let i = at.invariant in let rest : List Load = into_iter_items c.next.new.self in
    let steps : into_iter_items at.load-iterator ≡ c.in-Some.load ∷ rest = c.in-Some.ensures.steps.0 in
    let t : doubled (length (into_iter_items at.load-iterator)) ≡ 2 * doubled (length rest) = ap (λ (z : List Load). doubled (length z)) steps in let some = doubled-some (length rest) in let had = i.4 in let turned = i.5 in let held = i.6 in
    (omega arith, omega arith, omega arith)

pub make_runner-runner-requires-clause-ready : goal.make_runner-runner-requires-clause-ready
make_runner-runner-requires-clause-ready g c κs within = let at = c.loop-load in
    let steps : into_iter_items at.load-iterator ≡ c.in-Some.load ∷ into_iter_items c.next.new.self = c.in-Some.ensures.steps.0 in
    let loads : AreLoads (length at.yielded) (c.in-Some.load ∷ into_iter_items c.next.new.self) = subst (AreLoads (length at.yielded)) steps at.invariant.7 in loads.0

pub loop-load-preserved : goal.loop-load-preserved
loop-load-preserved g c = let line = c.args.line.now in let at = c.loop-load in let i = at.invariant in let x = c.in-Some.load in let rest : List Load = into_iter_items c.next.new.self in
    let steps : into_iter_items at.load-iterator ≡ x ∷ rest = c.in-Some.ensures.steps.0 in
    let t : doubled (length (into_iter_items at.load-iterator)) ≡ 2 * doubled (length rest) = ap (λ (z : List Load). doubled (length z)) steps in
    let loads : AreLoads (length at.yielded) (x ∷ rest) = subst (AreLoads (length at.yielded)) steps i.7 in
    let was = i.1 in let gone = c.in-Some.ensures.steps.1 in let short = ap length steps in let had = i.4 in let turned = i.5 in let held = i.6 in
    let made = c.make_runner-runner.ensures in let y = c.make_runner-runner.result in let push = c.push_reserved-in-loop-load.ensures in
    let rings = made.ring.0 in let less = made.ring.1 in let turns = made.turn.0 in let slighter = made.turn.1 in let passes = made.pass.0 in let fewer = made.pass.1 in
    let j : Job _ _ _ _ = record { line = c.args.line; task = Send y } in
    let all : c.push_reserved-in-loop-load.new.self.items ≡ at.jobs.items ++ j ∷ [] = push.items in
    let tasks : tasks_of c.push_reserved-in-loop-load.new.self.items ≡ tasks_of at.jobs.items ++ Send y ∷ [] = ap tasks_of all ∙ tasks_of-append at.jobs.items (j ∷ []) in
    let had_tasks : List (Task _ _ _ _) = tasks_of at.jobs.items in
    let a : ring_parts (tasks_of c.push_reserved-in-loop-load.new.self.items) ≡ ring_parts had_tasks + ring_parts (Send y ∷ []) = ap ring_parts tasks ∙ ring_parts-append had_tasks (Send y ∷ []) in
    let d : turn_parts (tasks_of c.push_reserved-in-loop-load.new.self.items) ≡ turn_parts had_tasks + turn_parts (Send y ∷ []) = ap turn_parts tasks ∙ turn_parts-append had_tasks (Send y ∷ []) in
    let b : pass_parts (tasks_of c.push_reserved-in-loop-load.new.self.items) ≡ pass_parts had_tasks + pass_parts (Send y ∷ []) = ap pass_parts tasks ∙ pass_parts-append had_tasks (Send y ∷ []) in
    let sum = i.11 in let spins = i.12 in let total = i.13 in let room = i.14 in let longer = length-append at.yielded (x ∷ []) in let count = i.15 in let grown = ap length all ∙ length-append at.jobs.items (j ∷ []) in let len = push.len in let kept = push.capacity in
    let named : y.sender.number ≡ 0 + length (captures_in had_tasks) = (let e = made.named.1 in let n = loads.1 in let f = ap length i.10 in let k = length-loaded at.yielded in omega arith) in
    let more : length at.yielded + 1 ≡ length (at.yielded ++ x ∷ []) = omega arith in (
      append_assoc at.yielded (x ∷ []) _ ∙ rw (← steps) at.invariant.0,
      omega arith,
      made.own.0,
      made.own.1,
      omega arith,
      omega arith,
      omega arith,
      subst (λ (z : ℕ). AreLoads z rest) more loads.2,
      subst (λ (z : List (Job _ _ _ _)). AreAt line z) (sym all) (at-append line at.jobs.items (j ∷ []) i.8 (refl, tt)),
      subst (λ (z : List (Task _ _ _ _)). AreSet line 0 z) (sym tasks) (set_more line 0 had_tasks (Send y ∷ []) i.9 (made.runner, named, tt)),
      ap captures_in tasks ∙ captures_in-append had_tasks (Send y ∷ []) ∙ (λ k. i.10 k ++ made.named.0 k ∷ []) ∙ sym (loaded-append at.yielded (x ∷ [])),
      omega arith,
      omega arith,
      omega arith,
      omega arith,
      omega arith,
    )
