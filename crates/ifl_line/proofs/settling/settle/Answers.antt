use Rattle.std.proofs.Common.{ap, ◌∙◌}
use Rattle.ifl_ring.specs.declared.view.Known.{Known}
use Rattle.ifl_line.proofs.Taking.{kicks_behind}
use Rattle.ifl_line.proofs.settling.settle.Goals as goal

pub returns-clause-own : goal.returns-clause-own
returns-clause-own g c = record { seats = c.rest.ensures.own; pass_is = c.gather-ended.ensures.own.pass_is; lawful = c.gather-ended.ensures.own.lawful }

pub returns-clause-ring : goal.returns-clause-ring
returns-clause-ring g c = ap (λ (z : Known). z.part) c.rest.ensures.only.1.is ∙ c.gather-ended.ensures.ring

pub returns-clause-turn : goal.returns-clause-turn
returns-clause-turn g c = c.rest.ensures.part ∙ c.gather-ended.ensures.turn

pub returns-clause-sent : goal.returns-clause-sent
returns-clause-sent g c = let only = c.rest.ensures.only in kicks_behind _ _ c.gather-ended.result.items _ _ only.0 _ only.1 only.2 c.gather-ended.ensures.sent
