use Rattle.std.proofs.Common.{◌∙◌, sym, arith}
use Rattle.ifl_check.specs.Text.{fate_text, line_text, HasNumbers}
use Rattle.ifl_check.proofs.OneReading.{accepted-once, stuck, read-more}
use Rattle.ifl_check.proofs.reading.read_accepted.Goals as goal

pub returns-in_default-clause-none : goal.returns-in_default-clause-none
returns-in_default-clause-none c = λ ls rest n fit e.
    let sized = c.loop.invariant.1 in let lt = c.loop-test.true in
    stuck (line_text fate_text) HasNumbers accepted-once c.loop.lines.items ls c.loop.rest.now rest (omega arith) c.loop.invariant.2 fit c.in_default.ensures.none (sym c.loop.invariant.0 ∙ e)

pub loop-preserved : goal.loop-preserved
loop-preserved c = read-more (line_text fate_text) HasNumbers c.args.text.now c.loop.rest.now c.in-Some.behind.now c.loop.lines.items c.push.new.self.items c.in-Some.line c.loop.counter
    c.loop.invariant.0 c.in-Some.ensures.some.0 c.in_ok-push.ensures.items c.loop.invariant.1 c.loop.invariant.2 c.in-Some.ensures.some.1
