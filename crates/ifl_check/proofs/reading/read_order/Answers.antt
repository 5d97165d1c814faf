use Rattle.std.proofs.Common.{◌∙◌, [], length, sym, ap}
use Rattle.std.specs.List.{flat_map}
use Rattle.std.proofs.lemmas.List.{append-nil}
use Rattle.ifl_check.specs.Text.{away_text, line_text}
use Rattle.ifl_check.proofs.Absent.{none-at, some-at}
use Rattle.ifl_check.proofs.Fronts.{not_empty}
use Rattle.ifl_check.proofs.OneReading.{order-parts, few-accepted, few-away, after-count, after-accepted, after-second, after-away, lines_and_away}
use Rattle.ifl_check.proofs.reading.read_order.Goals as goal

pub returns-in_default-clause-none : goal.returns-in_default-clause-none
returns-in_default-clause-none c = λ xs us h. c.in_default.ensures.none (length xs) (lines_and_away xs us) (few-accepted c.args.text.now xs us c.in_default.ensures.small h) (sym h.reads ∙ order-parts xs us)

pub returns-in_default-2-clause-none : goal.returns-in_default-2-clause-none
returns-in_default-2-clause-none c = λ xs us h.
    let some = c.in-Some.ensures.some in
    let a = after-count c.args.text.now c.in-Some.rest.now c.in-Some.count xs us c.in-Some.ensures.small h some.1 some.0 in
    none-at c.in_ok-rest.field-0 _ c.in_default-2.is c.in_ok-rest.ensures.none xs _ (sym a.0) h.accepted_fit a.1

pub returns-in_default-count_behind-clause-none : goal.returns-in_default-count_behind-clause-none
returns-in_default-count_behind-clause-none c = λ xs us h.
    let some = c.in-Some.ensures.some in
    let a = after-count c.args.text.now c.in-Some.rest.now c.in-Some.count xs us c.in-Some.ensures.small h some.1 some.0 in
    let read = some-at c.in_ok-rest.field-0 c.in-Some-2.rest _ c.in-Some-2.is c.in_ok-rest.ensures.some in
    let b = after-accepted c.args.text.now c.in-Some.rest.now c.in-Some-2.rest.now c.read_accepted.new.lines.items xs us h a.1 read.0 (read.1 ∙ a.0) read.2 in
    c.in_default-count_behind.ensures.none (length us) _ (few-away c.args.text.now xs us c.in-Some.ensures.small h) b.1

pub returns-in_default-3-clause-none : goal.returns-in_default-3-clause-none
returns-in_default-3-clause-none c = λ xs us h.
    let some = c.in-Some.ensures.some in
    let a = after-count c.args.text.now c.in-Some.rest.now c.in-Some.count xs us c.in-Some.ensures.small h some.1 some.0 in
    let read = some-at c.in_ok-rest.field-0 c.in-Some-2.rest _ c.in-Some-2.is c.in_ok-rest.ensures.some in
    let b = after-accepted c.args.text.now c.in-Some.rest.now c.in-Some-2.rest.now c.read_accepted.new.lines.items xs us h a.1 read.0 (read.1 ∙ a.0) read.2 in
    let next = c.in-Some-count_behind.ensures.some in
    let d = after-second c.args.text.now c.in-Some-2.rest.now c.in-Some-count_behind.rest.now c.in-Some-count_behind.count xs us c.in-Some.ensures.small h next.1 b.1 next.0 in
    none-at c.in_ok-rest-2.field-0 _ c.in_default-3.is c.in_ok-rest-2.ensures.none us [] (sym d.0) h.away_fit (d.1 ∙ sym (append-nil (flat_map (line_text away_text) us)))

pub returns-then-not-is_empty-clause-none : goal.returns-then-not-is_empty-clause-none
returns-then-not-is_empty-clause-none c = λ xs us h.
    let some = c.in-Some.ensures.some in
    let a = after-count c.args.text.now c.in-Some.rest.now c.in-Some.count xs us c.in-Some.ensures.small h some.1 some.0 in
    let read = some-at c.in_ok-rest.field-0 c.in-Some-2.rest _ c.in-Some-2.is c.in_ok-rest.ensures.some in
    let b = after-accepted c.args.text.now c.in-Some.rest.now c.in-Some-2.rest.now c.read_accepted.new.lines.items xs us h a.1 read.0 (read.1 ∙ a.0) read.2 in
    let next = c.in-Some-count_behind.ensures.some in
    let d = after-second c.args.text.now c.in-Some-2.rest.now c.in-Some-count_behind.rest.now c.in-Some-count_behind.count xs us c.in-Some.ensures.small h next.1 b.1 next.0 in
    let last = some-at c.in_ok-rest-2.field-0 c.in-Some-3.rest _ c.in-Some-3.is c.in_ok-rest-2.ensures.some in
    let e = after-away c.args.text.now c.in-Some-count_behind.rest.now c.in-Some-3.rest.now c.read_away.new.lines.items us xs h d.1 last.0 (last.1 ∙ d.0) last.2 in
    not_empty (length c.in-Some-3.rest.now) (sym c.is_empty.ensures ∙ c.if-not-is_empty.true) (ap length e.1)
