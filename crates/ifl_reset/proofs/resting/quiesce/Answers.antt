use Rattle.std.proofs.Common.{rules, ◌≡◌, ℕ, ap, ◌∙◌, refl, subst, arith, false, [], ◌∷◌, ◌++◌, length, map}
use Rattle.ifl_base.specs.declared.word.Flag.TheVariants.{Idle}
use Rattle.ifl_ringcore.specs.declared.history.Meaning.{Meaning}
use Rattle.ifl_ring.specs.Calls.{IsEnqueued}
use Rattle.ifl_ring.proofs.Claiming.{publishing-checked}
use Rattle.ifl_txq.specs.Items.{meaning_of}
use Rattle.ifl_txq.specs.declared.item.Item.TheVariants.{Kick}
use Rattle.ifl_reset.proofs.Quieting.{quiet_new, quiet_none, quiet_on, quiet_ends, kick_published}
use Rattle.ifl_reset.proofs.resting.quiesce.Goals as goal

pub loop-init : goal.loop-init
loop-init g c = (refl, quiet_new (meaning_of Kick) c.args.ring.now.size c.args.seat.now.known, refl, refl, c.requires.turn.1, c.requires.kick.0, (omega arith))

pub returns-then-word-clause-did : goal.returns-then-word-clause-did
returns-then-word-clause-did g c = let idle : c.look-word.result.flag ≡ Idle = search rules in
    quiet_ends (meaning_of Kick) c.args.ring.now.size c.args.seat.now.known c.loop.seat.known c.look-word.new.seat.known c.look-word.result c.loop.invariant.1 c.look-word.ensures.went c.look-word.ensures.look idle c.if-word.true

pub loop-preserved : goal.loop-preserved
loop-preserved g c =
    let kick : Meaning = meaning_of Kick in let size : ℕ = c.args.ring.now.size in let inv = c.loop.invariant in
    let seat = c.serve.ensures.seat in
    let checked = c.check_drainage.ensures.answer in let sent = c.enqueue.ensures.answer in
    let items = c.push_back_reserved.ensures.items ∙ ap (λ z. z ++ Kick ∷ []) inv.5 in
    let kicked : IsEnqueued size 32 false 1 (kick ∷ []) c.enqueue.result sent.0 = subst (λ z. IsEnqueued size 32 false (length z) (map meaning_of z) c.enqueue.result sent.0) items sent.2 in
    let looked = quiet_none kick size c.args.seat.now.known c.loop.seat.known c.look-word.new.seat.known _ inv.1 c.look-word.ensures.went refl in
    let drained = quiet_none kick size c.args.seat.now.known c.look-word.new.seat.known c.check_drainage.new.seat.known checked.0 looked checked.1 (publishing-checked 32 c.check_drainage.result checked.0 checked.2) in (
      c.enqueue.ensures.own ∙ c.check_drainage.ensures.own ∙ c.look-word.ensures.own ∙ inv.0,
      quiet_on kick size c.args.seat.now.known c.check_drainage.new.seat.known c.enqueue.new.seat.known sent.0 drained sent.1 (kick_published kick size c.enqueue.result sent.0 kicked),
      seat.0 ∙ inv.2,
      seat.1 ∙ inv.3,
      seat.2,
      c.clear.ensures.items,
      (let a = inv.6 in let b = c.push_back_reserved.ensures.capacity in let d = c.enqueue.ensures.room in let e = c.clear.ensures.capacity in omega arith),
    )
