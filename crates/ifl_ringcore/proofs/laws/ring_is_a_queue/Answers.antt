use Rattle.std.proofs.Common.{◌≤◌, ◌-◌, ◌∙◌, ℕ, ap, refl, arith, List}
use Rattle.ifl_ringcore.specs.History.{IsLegalHistory, state_after}
use Rattle.ifl_ringcore.specs.Queue.{no_items, queue_after}
use Rattle.ifl_ringcore.specs.State.{first_state}
use Rattle.ifl_ringcore.specs.declared.history.Entry.{Entry}
use Rattle.ifl_ringcore.proofs.Keeping.{invariant-first, invariant-history}
use Rattle.ifl_ringcore.proofs.Queueing.{IsQueueOf, queue-history, queue-waiting}
use Rattle.ifl_ringcore.proofs.laws.ring_is_a_queue.Goals as goal

queued : (size : ℕ) (history : List Entry) → 4 ≤ size → IsLegalHistory size first_state history
    → IsQueueOf (queue_after no_items history) (state_after first_state history).items (state_after first_state history).released
queued size history four legal = queue-history size first_state history no_items (invariant-first size (omega arith)) legal (record { same = refl; counted = refl })

pub returns-clause-items : goal.returns-clause-items
returns-clause-items c = λ size history four legal. (queued size history four legal).same

pub returns-clause-released : goal.returns-clause-released
returns-clause-released c = λ size history four legal. (queued size history four legal).counted

pub returns-clause-waiting : goal.returns-clause-waiting
returns-clause-waiting c = λ size history four legal. let st = state_after first_state history in
    queue-waiting (queue_after no_items history) st.items st.released (queued size history four legal)
    ∙ ap (λ (z : ℕ). z - st.released) (invariant-history size first_state history (invariant-first size (omega arith)) legal).counted
