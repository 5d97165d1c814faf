use Rattle.std.proofs.Common.{◌+◌, ap, ◌∙◌}
use Rattle.ifl_line.specs.Works.{captures_of}
use Rattle.ifl_line.proofs.Taking.{ended_done, set_may}
use Rattle.ifl_line.proofs.transmitting.transmit.Goals as goal

pub run_jobs-requires-after_bounds : goal.run_jobs-requires-after_bounds
run_jobs-requires-after_bounds g c κs within = λ k d low lt. set_may c.args.line.now 0 c.args.jobs.now c.requires.jobs.0 c.requires.jobs.1 k d lt

pub settle-requires-clause-done : goal.settle-requires-clause-done
settle-requires-clause-done g c κs within = (ended_done c.args.line.now c.args.jobs.now c.run_jobs.new.jobs c.requires.jobs.0 c.requires.jobs.1 c.run_jobs.ensures.long c.run_jobs.ensures.done).done

pub returns-clause-ring : goal.returns-clause-ring
returns-clause-ring g c = let all = ended_done c.args.line.now c.args.jobs.now c.run_jobs.new.jobs c.requires.jobs.0 c.requires.jobs.1 c.run_jobs.ensures.long c.run_jobs.ensures.done in
    c.settle.ensures.ring ∙ ap (λ z. c.args.hands.now.seats.ring.known.part + z) all.rings

pub returns-clause-turn : goal.returns-clause-turn
returns-clause-turn g c = let all = ended_done c.args.line.now c.args.jobs.now c.run_jobs.new.jobs c.requires.jobs.0 c.requires.jobs.1 c.run_jobs.ensures.long c.run_jobs.ensures.done in
    c.settle.ensures.turn ∙ ap (λ z. c.args.hands.now.seats.turn.part + z) all.turns

pub returns-clause-pass : goal.returns-clause-pass
returns-clause-pass g c = let all = ended_done c.args.line.now c.args.jobs.now c.run_jobs.new.jobs c.requires.jobs.0 c.requires.jobs.1 c.run_jobs.ensures.long c.run_jobs.ensures.done in
    c.settle.ensures.pass ∙ ap (λ z. c.args.hands.now.pass.known.part + z) all.passes

pub returns-clause-captures : goal.returns-clause-captures
returns-clause-captures g c = let all = ended_done c.args.line.now c.args.jobs.now c.run_jobs.new.jobs c.requires.jobs.0 c.requires.jobs.1 c.run_jobs.ensures.long c.run_jobs.ensures.done in
    ap captures_of c.settle.ensures.ended ∙ all.captures
