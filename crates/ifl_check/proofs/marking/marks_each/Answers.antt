use Rattle.std.proofs.Common.{◌∙◌, sym}
use Rattle.ifl_check.specs.Files.{each_frames}
use Rattle.ifl_check.specs.Places.{place}
use Rattle.ifl_check.proofs.Namings.{stops-accepted, stops-away, once-ones, once-not_ones, senders-within}
use Rattle.ifl_check.proofs.Rows.{records-captures}
use Rattle.ifl_check.proofs.marking.marks_each.Goals as goal

pub returns-then-not-mark-clause-no : goal.returns-then-not-mark-clause-no
returns-then-not-mark-clause-no c = λ _. stops-accepted (each_frames c.args.captures.now) c.args.marks.now c.args.accepted.now c.args.away.now
    (λ s k. c.requires.zeros (place (each_frames c.args.captures.now) s k)) (c.mark.ensures.no c.if-not-mark.true)

pub returns-then-not-mark-2-clause-no : goal.returns-then-not-mark-2-clause-no
returns-then-not-mark-2-clause-no c = λ _. stops-away (each_frames c.args.captures.now) c.args.marks.now c.mark.new.marks c.args.accepted.now c.args.away.now
    (λ s k. c.requires.zeros (place (each_frames c.args.captures.now) s k)) (c.mark.ensures.yes c.if-not-mark.false) (c.mark-2.ensures.no c.if-not-mark-2.true)

pub returns-clause-yes : goal.returns-clause-yes
returns-clause-yes c = λ e. once-ones (each_frames c.args.captures.now) c.args.marks.now c.mark.new.marks c.mark-2.new.marks c.args.accepted.now c.args.away.now
    (λ s k. c.requires.zeros (place (each_frames c.args.captures.now) s k)) (c.mark.ensures.yes c.if-not-mark.false) (c.mark-2.ensures.yes c.if-not-mark-2.false)
    (c.mark.ensures.records c.if-not-mark.false) (c.mark-2.ensures.records c.if-not-mark-2.false)
    (c.mark-2.ensures.len ∙ (c.mark.ensures.len ∙ (c.requires.marks ∙ sym (records-captures c.args.captures.now)))) (sym c.are_ones.ensures ∙ e)

pub returns-clause-no : goal.returns-clause-no
returns-clause-no c = λ e. once-not_ones (each_frames c.args.captures.now) c.args.marks.now c.mark.new.marks c.mark-2.new.marks c.args.accepted.now c.args.away.now
    (λ s k. c.requires.zeros (place (each_frames c.args.captures.now) s k)) (c.mark.ensures.yes c.if-not-mark.false) (c.mark-2.ensures.yes c.if-not-mark-2.false)
    (c.mark-2.ensures.len ∙ (c.mark.ensures.len ∙ (c.requires.marks ∙ sym (records-captures c.args.captures.now)))) (sym c.are_ones.ensures ∙ e)

pub returns-clause-senders : goal.returns-clause-senders
returns-clause-senders c = λ e. senders-within c.args.captures.now c.args.accepted.now (c.mark.ensures.records c.if-not-mark.false)
