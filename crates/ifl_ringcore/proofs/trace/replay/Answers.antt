use Rattle.std.proofs.Common.{◌∙◌, ◌++◌, ℕ, ◌+◌, refl, ap, arith, length, List}
use Rattle.ifl_ringcore.specs.declared.counters.Counters.{Counters}
use Rattle.ifl_ringcore.specs.Texts.{fault_line, counters_line}
use Rattle.ifl_ringcore.proofs.Replaying.{replayed-init, replayed-more, replayed-fault, replayed-end}
use Rattle.ifl_ringcore.proofs.trace.replay.Goals as goal

pub loop-event-init : goal.loop-event-init
loop-event-init c = let m = c.in_ok-machine.ensures.made in
    (replayed-init c.args.schedule.now c.in_ok-machine.machine c.in_ok-text.text.items c.in_ok-machine.ensures.first m.0 m.1 m.2 c.in_ok-text.ensures.items, refl)

pub loop-event-preserved : goal.loop-event-preserved
loop-event-preserved c = let h = c.loop-event.invariant in (
  replayed-more c.args.schedule.now c.loop-event.event-index c.loop-event.machine c.apply.new.self c.loop-event.text.items c.put_word.new.out.items
      c.as_slice-events.result.now _ c.word.result h.0 c.as_slice-events.ensures c.loop-event-test.true refl
      c.in-Ok.ensures.decides c.in-Ok.ensures.made c.in-Ok.ensures.counted c.in-Ok.ensures.same c.word.ensures c.in_ok-put_word-in-Ok.ensures,
  let n = h.1 in omega arith,
)

pub returns-in-Err-clause-text : goal.returns-in-Err-clause-text
returns-in-Err-clause-text c = let h = c.loop-event.invariant in let n = h.1 in
    c.from_vec-text.ensures ∙ c.in_ok-put_fault-in-Err.ensures ∙ ap (λ (z : List ℕ). c.loop-event.text.items ++ fault_line (c.loop-event.line + 1) z) c.name.ensures
    ∙ (replayed-fault c.args.schedule.now c.loop-event.event-index (c.loop-event.line + 1) c.loop-event.machine c.loop-event.text.items c.as_slice-events.result.now _ c.in-Err.condition
    h.0 c.as_slice-events.ensures c.loop-event-test.true refl (omega arith) c.in-Err.ensures.decides).0

pub returns-in-Err-clause-legal : goal.returns-in-Err-clause-legal
returns-in-Err-clause-legal c = let h = c.loop-event.invariant in let n = h.1 in
    (replayed-fault c.args.schedule.now c.loop-event.event-index (c.loop-event.line + 1) c.loop-event.machine c.loop-event.text.items c.as_slice-events.result.now _ c.in-Err.condition
    h.0 c.as_slice-events.ensures c.loop-event-test.true refl (omega arith) c.in-Err.ensures.decides).1

pub returns-clause-text : goal.returns-clause-text
returns-clause-text c = let h = c.loop-event.invariant in let n = c.loop-event-test.false in let same = ap length c.as_slice-events.ensures in
    c.from_vec-text-2.ensures ∙ c.in_ok-put_counters.ensures ∙ ap (λ (z : Counters). c.loop-event.text.items ++ counters_line z) c.counters.ensures
    ∙ (replayed-end c.args.schedule.now c.loop-event.event-index c.loop-event.machine c.loop-event.text.items h.0 (omega arith)).0

pub returns-clause-legal : goal.returns-clause-legal
returns-clause-legal c = let h = c.loop-event.invariant in let n = c.loop-event-test.false in let same = ap length c.as_slice-events.ensures in
    (replayed-end c.args.schedule.now c.loop-event.event-index c.loop-event.machine c.loop-event.text.items h.0 (omega arith)).1
