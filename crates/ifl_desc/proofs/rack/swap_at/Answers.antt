use Rattle.std.proofs.Common.{◌≡◌, ℕ, ◌-◌, ◌∷◌, ◌∙◌, ap, arith, drop, suc}
use Rattle.ifl_desc.specs.Rule.{Slot}
use Rattle.ifl_desc.specs.Rack.{spin}
use Rattle.ifl_desc.proofs.Turning.{to_front, back_again, same_value}
use Rattle.ifl_desc.proofs.rack.swap_at.Goals as goal

pub exchange-old-requires : goal.exchange-old-requires
exchange-old-requires g c =
    let here = c.requires.here in
    let e : c.loop.counter ≡ c.args.at = omega arith in (
      c.loop.invariant.0.0 ∙ c.requires.table,
      (here.0, to_front c.args.at c.args.seat.now.me.1 c.loop.seat.me.1 c.args.slot here.0 (omega (arith, c.requires.count.0)) here.1 (c.loop.invariant.1 ∙ ap (λ (z : ℕ). spin z c.args.seat.now.me.1) e)),
    )

pub returns-clause-slots : goal.returns-clause-slots
returns-clause-slots g c =
    let here = c.requires.here in
    let e : c.loop.counter ≡ c.args.at = omega arith in
    let e2 : c.loop-2.counter ≡ c.args.count = omega arith in
    back_again c.args.at c.args.count c.args.seat.now.me.1 c.loop.seat.me.1 c.exchange-old.new.seat.me.1 c.loop-2.seat.me.1 c.args.slot c.args.new here.0
    c.requires.count.0 c.requires.count.1 here.1 (c.loop.invariant.1 ∙ ap (λ (z : ℕ). spin z c.args.seat.now.me.1) e)
    (ap (λ m. m.1) c.exchange-old.ensures.3)
    (c.loop-2.invariant.1 ∙ ap (λ (z : ℕ). spin (z - c.args.at) c.exchange-old.new.seat.me.1) e2)

pub returns-clause-value : goal.returns-clause-value
returns-clause-value g c =
    let here = c.requires.here in
    let e : c.loop.counter ≡ c.args.at = omega arith in
    let m = c.loop.seat.me.1 in
    let front = to_front c.args.at c.args.seat.now.me.1 m c.args.slot here.0 (omega (arith, c.requires.count.0)) here.1 (c.loop.invariant.1 ∙ ap (λ (z : ℕ). spin z c.args.seat.now.me.1) e) in
    here.1 ∙ ap (λ (x : Slot). (c.args.slot, x) ∷ drop (suc c.args.at) c.args.seat.now.me.1) (same_value m c.args.slot here.0 c.exchange-old.result front c.exchange-old.ensures.2)
