use Rattle.std.proofs.Common.{◌∙◌, ◌++◌, ℕ, List, sym, ap, length, take, arith}
use Rattle.std.specs.List.{flat_map}
use Rattle.ifl_base.specs.declared.fate.Fate.{Fate}
use Rattle.ifl_base.specs.declared.fate.Fate.TheVariants as fate
use Rattle.ifl_pcap.specs.File.{record_of, written_header}
use Rattle.ifl_check.specs.declared.line.Line.{Line}
use Rattle.ifl_check.specs.Files.{each_frames}
use Rattle.ifl_check.specs.OnWire.{on_wire, wire_frames}
use Rattle.ifl_check.proofs.Fronts.{empty, not_empty}
use Rattle.ifl_check.proofs.Records.{rest-flat_map, all-flat_map, rest-all, nil-length, flat_map-flat_map}
use Rattle.ifl_check.proofs.wire.is_wire.Goals as goal

pub returns-in_default-clause-no : goal.returns-in_default-clause-no
unfolding written_header
returns-in_default-clause-no c = λ _ e. c.in_default.ensures.none (flat_map record_of (wire_frames (each_frames c.args.captures.now) c.args.lines.now)) e

pub returns-in_default-behind_line-clause-no : goal.returns-in_default-behind_line-clause-no
returns-in_default-behind_line-clause-no c =
    let files = each_frames c.args.captures.now in let lines = c.args.lines.now in let d : Line Fate = record { sender = 0; index = 0; what = fate.Wire } in
    λ _ e. c.in_default-behind_line.ensures.none _
    (rest-flat_map (λ x. flat_map record_of (on_wire files x)) lines c.loop-line.line-index d c.args.wire.now written_header c.loop-line.rest.now c.loop-line-test.true c.loop-line.invariant
    (e ∙ ap (λ (z : List ℕ). written_header ++ z) (flat_map-flat_map record_of (on_wire files) lines)))

pub returns-clause-yes : goal.returns-clause-yes
returns-clause-yes c =
    let files = each_frames c.args.captures.now in let lines = c.args.lines.now in
    λ e. let none = nil-length c.loop-line.rest.now (empty (length c.loop-line.rest.now) (sym c.is_empty.ensures ∙ e)) in
    let over = c.loop-line-test.false in
    all-flat_map (λ x. flat_map record_of (on_wire files x)) lines c.loop-line.line-index c.args.wire.now written_header (omega arith) c.loop-line.auto.line-index-end
    (c.loop-line.invariant ∙ ap (λ (z : List ℕ). written_header ++ (flat_map (λ x. flat_map record_of (on_wire files x)) (take c.loop-line.line-index lines) ++ z)) none)
    ∙ ap (λ (z : List ℕ). written_header ++ z) (sym (flat_map-flat_map record_of (on_wire files) lines))

pub returns-clause-no : goal.returns-clause-no
returns-clause-no c =
    let files = each_frames c.args.captures.now in let lines = c.args.lines.now in let over = c.loop-line-test.false in
    λ e h. not_empty (length c.loop-line.rest.now) (sym c.is_empty.ensures ∙ e) (ap length
    (rest-all (λ x. flat_map record_of (on_wire files x)) lines c.loop-line.line-index c.args.wire.now written_header c.loop-line.rest.now (omega arith) c.loop-line.auto.line-index-end c.loop-line.invariant
    (h ∙ ap (λ (z : List ℕ). written_header ++ z) (flat_map-flat_map record_of (on_wire files) lines))))
