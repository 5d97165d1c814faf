use Rattle.std.proofs.Common.{◌≡◌, ◌∙◌, ◌==◌, ℕ, ◌<◌, ◌+◌, List, length, sym, subst, arith, false}
use Rattle.std.proofs.lemmas.Bool.Decides.{nat_tests}
use Rattle.ifl_ringcore.specs.declared.event.Event.{Event}
use Rattle.ifl_ringcore.specs.Reading.{HasRead}
use Rattle.ifl_ringcore.proofs.Scanning.{read-more, read-bad}
use Rattle.ifl_ringcore.proofs.reading.read_schedule.Goals as goal

not_empty : (n : ℕ) → (n == 0) ≡ false → 0 < n
not_empty n e = grind (arith, nat_tests)

pub returns-in_default-next_line-clause-err : goal.returns-in_default-next_line-clause-err
returns-in_default-next_line-clause-err c =
    read-bad c.args.text.now c.in-Some.size c.in-Some.seats c.loop-rest.events c.loop-rest.rest.now c.loop-rest.line c.loop-rest.invariant
    (not_empty (length c.loop-rest.rest.now) (sym c.is_empty.ensures ∙ c.loop-rest-test.true)) c.in_default-next_line.ensures.none

pub loop-rest-preserved : goal.loop-rest-preserved
loop-rest-preserved c =
    subst (λ (z : List Event). HasRead c.args.text.now c.in-Some.size c.in-Some.seats z c.in-Some-next_line.behind.now (c.loop-rest.line + 1)) (sym c.in-Ok.ensures.ok)
    (read-more c.args.text.now c.in-Some.size c.in-Some.seats c.loop-rest.events c.loop-rest.rest.now c.loop-rest.line c.in-Some-next_line.event c.in-Some-next_line.behind.now
    c.loop-rest.invariant c.in-Some-next_line.ensures.some.1 c.in-Some-next_line.ensures.some.0)
