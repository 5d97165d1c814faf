use Rattle.std.proofs.Common.{◌≡◌, inr, ℕ, List, ◌++◌, map, take, drop, refl, sym, ap, ◌∙◌, subst, arith, append-nil}
use Rattle.ifl_ringcore.specs.declared.history.Meaning.{Meaning}
use Rattle.ifl_desc.specs.declared.port.PortState.TheVariants as state
use Rattle.ifl_txq.specs.declared.item.Item.{Item}
use Rattle.ifl_txq.specs.Items.{meaning_of}
use Rattle.ifl_txq.specs.Queue.{IsRung, Origin}
use Rattle.ifl_txq.specs.Standing.{QueueStandsFor}
use Rattle.ifl_txq.proofs.Draining.{begun_rung, drained_stands, drained_origin, drained_none, drained_all, drained_full, drained_down, drained_saw, drained_up, drop_all, take_whole}
use Rattle.ifl_txq.proofs.drain.TxqDrainer.drain.Goals as goal

pub flush_all-requires-clause-saw : goal.flush_all-requires-clause-saw
flush_all-requires-clause-saw g c = drained_saw c.args.self.now c.begin.new.self state.Flush c.in-Flush.ensures.begun refl

pub send_all-requires-clause-up : goal.send_all-requires-clause-up
send_all-requires-clause-up g c = drained_up c.args.self.now c.begin.new.self state.Up c.in-Up.ensures.begun refl

pub send_all-requires-clause-settled : goal.send_all-requires-clause-settled
send_all-requires-clause-settled g c = begun_rung c.args.self.now c.begin.new.self state.Up c.in-Up.ensures.begun c.requires.settled

pub returns-in-Down-clause-stands : goal.returns-in-Down-clause-stands
returns-in-Down-clause-stands g c = λ (ms : List Meaning) (s : QueueStandsFor c.args.self.now ms). subst (QueueStandsFor c.begin.new.self) (sym (append-nil ms)) (c.in-Down.ensures.begun.stands ms s)

pub returns-in-Down-clause-settled : goal.returns-in-Down-clause-settled
returns-in-Down-clause-settled g c = begun_rung c.args.self.now c.begin.new.self state.Down c.in-Down.ensures.begun c.requires.settled

pub returns-in-Down-clause-origin : goal.returns-in-Down-clause-origin
returns-in-Down-clause-origin g c = c.in-Down.ensures.begun.origin

pub returns-in-Down-clause-full : goal.returns-in-Down-clause-full
returns-in-Down-clause-full g c = λ _. (drained_down c.args.self.now c.begin.new.self state.Down c.in-Down.ensures.begun refl).0

pub returns-in-Down-clause-cause : goal.returns-in-Down-clause-cause
returns-in-Down-clause-cause g c = λ _. (drained_down c.args.self.now c.begin.new.self state.Down c.in-Down.ensures.begun refl).1

pub returns-in-Down-clause-rung : goal.returns-in-Down-clause-rung
returns-in-Down-clause-rung g c = drained_none c.args.self.now c.begin.new.self state.Down c.in-Down.ensures.begun c.begin.new.self c.begin.ensures.lawful refl refl

pub returns-in-Flush-clause-count : goal.returns-in-Flush-clause-count
returns-in-Flush-clause-count g c = let e = c.flush_all.ensures.all.0 in omega arith

pub returns-in-Flush-clause-left : goal.returns-in-Flush-clause-left
returns-in-Flush-clause-left g c = c.flush_all.ensures.all.1 ∙ sym (drop_all c.args.batch.now.items) ∙ ap (λ (z : ℕ). drop z c.args.batch.now.items) (sym c.flush_all.ensures.all.0)

pub returns-in-Flush-clause-stands : goal.returns-in-Flush-clause-stands
returns-in-Flush-clause-stands g c = λ (ms : List Meaning) (s : QueueStandsFor c.args.self.now ms).
    let e : c.args.batch.now.items ≡ take c.flush_all.result c.args.batch.now.items = sym (take_whole c.args.batch.now.items) ∙ ap (λ (z : ℕ). take z c.args.batch.now.items) (sym c.flush_all.ensures.all.0) in
    subst (λ (z : List Item). QueueStandsFor c.flush_all.new.self (ms ++ map meaning_of z)) e (drained_stands c.args.self.now c.begin.new.self state.Flush c.in-Flush.ensures.begun c.flush_all.new.self (map meaning_of c.args.batch.now.items) c.flush_all.ensures.took ms s)

pub returns-in-Flush-clause-settled : goal.returns-in-Flush-clause-settled
returns-in-Flush-clause-settled g c = subst IsRung (sym c.flush_all.ensures.driver) (begun_rung c.args.self.now c.begin.new.self state.Flush c.in-Flush.ensures.begun c.requires.settled)

pub returns-in-Flush-clause-origin : goal.returns-in-Flush-clause-origin
returns-in-Flush-clause-origin g c = drained_origin c.args.self.now c.begin.new.self state.Flush c.in-Flush.ensures.begun c.flush_all.new.self (map meaning_of c.args.batch.now.items) c.flush_all.ensures.took

pub returns-in-Flush-clause-full : goal.returns-in-Flush-clause-full
returns-in-Flush-clause-full g c = λ z. let e = c.flush_all.ensures.all.0 in let s = c.requires.some.0 in absurd (omega arith)

pub returns-in-Flush-clause-cause : goal.returns-in-Flush-clause-cause
returns-in-Flush-clause-cause g c = λ z. let e = c.flush_all.ensures.all.0 in let s = c.requires.some.0 in absurd (omega arith)

pub returns-in-Flush-clause-fewer : goal.returns-in-Flush-clause-fewer
returns-in-Flush-clause-fewer g c = λ z. let e = c.flush_all.ensures.all.0 in absurd (omega arith)

pub returns-in-Flush-clause-rung : goal.returns-in-Flush-clause-rung
returns-in-Flush-clause-rung g c = drained_none c.args.self.now c.begin.new.self state.Flush c.in-Flush.ensures.begun c.flush_all.new.self c.flush_all.ensures.lawful c.flush_all.ensures.driver (ap (λ (z : Origin). z.doorbell_every) c.flush_all.ensures.took.origin)

pub returns-in-Up-clause-count : goal.returns-in-Up-clause-count
returns-in-Up-clause-count g c = c.send_all.ensures.sent.within

pub returns-in-Up-clause-left : goal.returns-in-Up-clause-left
returns-in-Up-clause-left g c = c.send_all.ensures.sent.left_is

pub returns-in-Up-clause-stands : goal.returns-in-Up-clause-stands
returns-in-Up-clause-stands g c = drained_stands c.args.self.now c.begin.new.self state.Up c.in-Up.ensures.begun c.send_all.new.self (map meaning_of (take c.send_all.result c.args.batch.now.items)) c.send_all.ensures.sent.took

pub returns-in-Up-clause-settled : goal.returns-in-Up-clause-settled
returns-in-Up-clause-settled g c = c.send_all.ensures.sent.rung

pub returns-in-Up-clause-origin : goal.returns-in-Up-clause-origin
returns-in-Up-clause-origin g c = drained_origin c.args.self.now c.begin.new.self state.Up c.in-Up.ensures.begun c.send_all.new.self (map meaning_of (take c.send_all.result c.args.batch.now.items)) c.send_all.ensures.sent.took

pub returns-in-Up-clause-full : goal.returns-in-Up-clause-full
returns-in-Up-clause-full g c = λ e. (drained_full c.args.self.now c.begin.new.self state.Up c.in-Up.ensures.begun c.send_all.new.self c.args.batch.now.items c.send_all.new.batch.items c.send_all.result c.requires.some.0 c.send_all.ensures.sent e).0

pub returns-in-Up-clause-cause : goal.returns-in-Up-clause-cause
returns-in-Up-clause-cause g c = λ e. (drained_full c.args.self.now c.begin.new.self state.Up c.in-Up.ensures.begun c.send_all.new.self c.args.batch.now.items c.send_all.new.batch.items c.send_all.result c.requires.some.0 c.send_all.ensures.sent e).1

pub returns-in-Up-clause-fewer : goal.returns-in-Up-clause-fewer
returns-in-Up-clause-fewer g c = λ lt. inr (c.send_all.ensures.sent.fewer lt)

pub returns-in-Up-clause-rung : goal.returns-in-Up-clause-rung
returns-in-Up-clause-rung g c = drained_all c.args.self.now c.begin.new.self state.Up c.in-Up.ensures.begun c.send_all.new.self c.args.batch.now.items c.send_all.new.batch.items c.send_all.result c.send_all.ensures.sent
