use Rattle.std.proofs.Common.{◌++◌, ◌∙◌, List, [], map, refl, subst, arith, sym}
use Rattle.std.specs.Prelude.{None, Some}
use Rattle.ifl_txq.specs.declared.item.Item.{Item}
use Rattle.ifl_txq.specs.Items.{meaning_of}
use Rattle.ifl_ring.specs.Rings.{SeatState}
use Rattle.ifl_line.specs.Steps.{IsOffered, Stepped}
use Rattle.ifl_line.proofs.Stepping.{offered-behind, quiet-more, stepped_more, stepped_none}
use Rattle.ifl_line.proofs.offering.publish.Goals as goal

pub loop-init : goal.loop-init
loop-init g c = (c.requires.own, refl, ([], stepped_none _, refl), refl, omega arith)

pub returns-in-None-offer_and_check-clause-offered : goal.returns-in-None-offer_and_check-clause-offered
returns-in-None-offer_and_check-clause-offered g c = let i = c.loop.invariant in let a = c.in-None-offer_and_check.ensures.offered in (
  i.2.0 ++ a.0,
  stepped_more _ _ _ i.2.0 a.0 i.2.1 a.1,
  offered-behind c.args.line.now.ring.size c.args.line.now.rules.budget c.args.line.now.rules.abdicate (map meaning_of c.args.items.now.items) None i.2.0 a.0 i.2.2
      (subst (λ (z : List Item). IsOffered c.args.line.now.ring.size c.args.line.now.rules.budget c.args.line.now.rules.abdicate (map meaning_of z) None a.0) i.3 a.2),
)

pub returns-then-drops-clause-offered : goal.returns-then-drops-clause-offered
returns-then-drops-clause-offered g c = let i = c.loop.invariant in let a = c.in-Some-offer_and_check.ensures.offered in (
  i.2.0 ++ a.0,
  stepped_more _ _ _ i.2.0 a.0 i.2.1 a.1,
  offered-behind c.args.line.now.ring.size c.args.line.now.rules.budget c.args.line.now.rules.abdicate (map meaning_of c.args.items.now.items) (Some c.in-Some-offer_and_check.seen) i.2.0 a.0 i.2.2
      (subst (λ (z : List Item). IsOffered c.args.line.now.ring.size c.args.line.now.rules.budget c.args.line.now.rules.abdicate (map meaning_of z) (Some c.in-Some-offer_and_check.seen) a.0) i.3 a.2),
)

pub loop-preserved : goal.loop-preserved
loop-preserved g c = let i = c.loop.invariant in let a = c.in-Some-offer_and_check.ensures.offered in let room = c.in-Some-offer_and_check.ensures.room in let had = i.4 in (
  c.attend.ensures.own,
  c.attend.ensures.part ∙ i.1,
  (i.2.0 ++ a.0, subst (λ (z : SeatState). Stepped c.args.seats.now.ring.known (i.2.0 ++ a.0) z.known) (sym c.attend.ensures.ring) (stepped_more _ _ _ i.2.0 a.0 i.2.1 a.1), quiet-more i.2.0 a.0 i.2.2 a.2.0),
  c.in-Some-offer_and_check.ensures.items ∙ i.3,
  omega arith,
)

pub returns-in-None-offer_and_check-clause-own : goal.returns-in-None-offer_and_check-clause-own
returns-in-None-offer_and_check-clause-own g c = record { ring_is = c.in-None-offer_and_check.ensures.own; turn_is = c.loop.invariant.0.turn_is; free = c.loop.invariant.0.free }

pub returns-then-drops-clause-own : goal.returns-then-drops-clause-own
returns-then-drops-clause-own g c = record { ring_is = c.in-Some-offer_and_check.ensures.own; turn_is = c.loop.invariant.0.turn_is; free = c.loop.invariant.0.free }
