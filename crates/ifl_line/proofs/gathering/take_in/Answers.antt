use Rattle.std.proofs.Common.{◌∷◌, [], List, length, sym, subst}
use Rattle.ifl_line.specs.declared.gathering.Ended.{Ended}
use Rattle.ifl_line.specs.declared.jobs.Task.{Task}
use Rattle.ifl_line.specs.Sent.{IsSent}
use Rattle.ifl_line.specs.Works.{AreDone, files_in, turned_in}
use Rattle.ifl_ring.specs.Seats.{events}
use Rattle.ifl_line.proofs.Taking.{sender_taken, worker_taken}
use Rattle.ifl_line.proofs.gathering.take_in.Goals as goal

pub returns-in-Work-clause-sent : goal.returns-in-Work-clause-sent
returns-in-Work-clause-sent g c = let line = c.args.line.now in let d = subst (λ (z : Task _ _ _ _). AreDone line (length c.args.ended.now.items) (z ∷ [])) c.in-Work.is c.requires.done in
    worker_taken _ _ c.args.ended.now.items c.args.hands.now.seats.ring.known c.in-Work.worker.seats.ring.known c.join.new.self.ring.known _ c.join.ensures.merged d.1 c.requires.sent

pub returns-in-Send-clause-sent : goal.returns-in-Send-clause-sent
returns-in-Send-clause-sent g c = let line = c.args.line.now in let d = subst (λ (z : Task _ _ _ _). AreDone line (length c.args.ended.now.items) (z ∷ [])) c.in-Send.is c.requires.done in
    subst (λ (z : List Ended). IsSent line.ring.size line.rules 0 (files_in z) (turned_in z) (events c.join-in-Send.new.self.seats.ring.known) c.join-in-Send.new.self.pass.known.counts) (sym c.push_reserved.ensures.items)
    (sender_taken _ _ c.args.ended.now.items (record { capture = c.in-Send.runner.capture; away = c.in-Send.runner.sender.away }) c.args.hands.now.seats.ring.known c.in-Send.runner.hands.seats.ring.known c.join-in-Send.new.self.seats.ring.known c.args.hands.now.pass.known c.in-Send.runner.hands.pass.known c.join-in-Send.new.self.pass.known c.join-in-Send.ensures.merged c.join-in-Send.ensures.passes c.requires.sent d.1)
