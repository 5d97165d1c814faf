use Rattle.std.proofs.Common.{◌∙◌, ℕ, inl, sym, ap, get_or}
use Rattle.ifl_check.specs.Files.{each_frames}
use Rattle.ifl_check.proofs.Namings.{stops-named, mark-more}
use Rattle.ifl_check.proofs.Rows.{records-captures}
use Rattle.ifl_check.proofs.marking.mark.Goals as goal

pub returns-in_default-clause-no : goal.returns-in_default-clause-no
returns-in_default-clause-no g c = λ _. (c.loop-line.line-index, c.line-item.result, c.loop-line-test.true, sym c.line-item.is, inl c.in_default.ensures.none)

pub returns-then-marks-place-ne0-clause-no : goal.returns-then-marks-place-ne0-clause-no
returns-then-marks-place-ne0-clause-no g c = λ _. (
  c.loop-line.line-index,
  c.line-item.result,
  c.loop-line-test.true,
  sym c.line-item.is,
  stops-named (each_frames c.args.captures.now) c.args.marks.now c.loop-line.marks c.args.lines.now c.loop-line.line-index c.line-item.result c.loop-line-test.true c.line-item.is
      c.in-Some.ensures.some.1 (λ e. c.if-marks-place-ne0.true (ap (λ (p : ℕ). get_or c.loop-line.marks p 0) c.in-Some.ensures.some.0 ∙ e)) c.loop-line.invariant.1,
)

pub loop-line-preserved : goal.loop-line-preserved
loop-line-preserved g c =
    mark-more (each_frames c.args.captures.now) c.args.marks.now c.loop-line.marks c.args.lines.now c.loop-line.line-index c.line-item.result c.in-Some.place c.loop-line-test.true c.line-item.is
    (c.loop-line.invariant.0 ∙ (c.requires.marks ∙ sym (records-captures c.args.captures.now))) c.loop-line.invariant.0
    c.in-Some.ensures.some.1 c.in-Some.ensures.some.0 c.if-marks-place-ne0.false c.loop-line.invariant.1 c.loop-line.invariant.2
