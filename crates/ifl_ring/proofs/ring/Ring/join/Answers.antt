use Rattle.std.proofs.Common.{rules, arith, ap, sym, ◌∙◌}
use Rattle.ifl_ringcore.specs.Counters.{capped, plus}
use Rattle.ifl_ring.specs.declared.view.Known.{Known}
use Rattle.ifl_ring.specs.Tally.{tally_of}
use Rattle.ifl_ring.specs.Seats.{Joined}
use Rattle.ifl_ring.proofs.Merging.{merge-joined}
use Rattle.ifl_ring.proofs.Tallying.{capped-both, tally-joined}
use Rattle.ifl_ring.proofs.ring.Ring.join.Goals as goal

pub invariant_of-seat : goal.invariant_of-seat
invariant_of-seat g c = let i = c.seat.invariant in let o = c.other.invariant in let j = c.join.ensures.both in
    let part = ap (λ (z : Known). z.part) j.is in let most = j.within in let a = i.1 in let b = o.1 in (
      c.join.ensures.rest,
      omega arith,
      omega arith,
      c.plus-seat-inside.ensures ∙ (λ k. capped (plus (i.3 k) (o.3 k))) ∙ capped-both (tally_of c.seat.inside.seat.me.0.known) (tally_of c.other.inside.seat.me.0.known) ∙ ap capped (sym (tally-joined _ _ _ _ j)),
    )

pub returns-clause-merged : goal.returns-clause-merged
returns-clause-merged g c = let j : Joined c.args.self.now.size c.args.seat.now.known c.args.other.known c.join.new.seat.me.0.known = search rules in merge-joined _ _ _ _ j

pub returns-clause-tally : goal.returns-clause-tally
returns-clause-tally g c = let j : Joined c.args.self.now.size c.args.seat.now.known c.args.other.known c.join.new.seat.me.0.known = search rules in tally-joined _ _ _ _ j
