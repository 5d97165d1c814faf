use Rattle.std.proofs.Common.{◌∙◌, ap, subst}
use Rattle.ifl_ringcore.specs.Kept.{IsSound}
use Rattle.ifl_ringcore.specs.Residues.{sight_in}
use Rattle.ifl_ringcore.specs.Table.{conditions, first_failing}
use Rattle.ifl_ringcore.specs.declared.sight.Sight.{Sight}
use Rattle.ifl_ringcore.proofs.Making.{first_failing-kept, applied-stands, applied-counters}
use Rattle.ifl_ringcore.proofs.machine.Machine.apply.Goals as goal

pub returns-in-Some-clause-decides : goal.returns-in-Some-clause-decides
returns-in-Some-clause-decides c = λ st s. c.in-Some.ensures
    ∙ ap (λ (z : Sight). first_failing (conditions z c.args.e.now)) (c.sight.ensures ∙ ap (sight_in c.args.self.now) c.seat.ensures)
    ∙ first_failing-kept c.args.self.now st c.args.e.now (subst IsSound c.self.view_is c.self.invariant) s

pub returns-clause-decides : goal.returns-clause-decides
returns-clause-decides c = λ st s. c.in_default.ensures
    ∙ ap (λ (z : Sight). first_failing (conditions z c.args.e.now)) (c.sight.ensures ∙ ap (sight_in c.args.self.now) c.seat.ensures)
    ∙ first_failing-kept c.args.self.now st c.args.e.now (subst IsSound c.self.view_is c.self.invariant) s

pub returns-clause-made : goal.returns-clause-made
returns-clause-made c = λ st items s l. applied-stands _ c.args.self.now c.make.new.self c.plus-self-inside.result st c.args.e.now items c.self.invariant c.self.view_is s l
    (c.in_default.ensures ∙ ap (λ (z : Sight). first_failing (conditions z c.args.e.now)) (c.sight.ensures ∙ ap (sight_in c.args.self.now) c.seat.ensures))
    c.make.ensures

pub returns-clause-counted : goal.returns-clause-counted
returns-clause-counted c = λ st items s l. applied-counters _ c.args.self.now c.make.new.self c.plus-self-inside.result c.rise.result st c.args.e.now items c.self.view_is s l
    c.rise.ensures c.plus-self-inside.ensures c.make.ensures
