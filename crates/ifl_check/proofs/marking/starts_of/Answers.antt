use Rattle.std.proofs.Common.{◌≡◌, ◌∙◌, ℕ, sym, ap, arith, length}
use Rattle.std.proofs.lemmas.List.{length-map}
use Rattle.ifl_pcap.specs.declared.capture.Capture.{Capture}
use Rattle.ifl_check.specs.Files.{each_frames}
use Rattle.ifl_check.specs.Places.{place}
use Rattle.ifl_check.proofs.Rows.{place-zero, next-file, starts-more, place-end, records-captures}
use Rattle.ifl_check.proofs.marking.starts_of.Goals as goal

pub loop-capture-init : goal.loop-capture-init
loop-capture-init c = ((λ s h. absurd (omega arith)), ap length c.in_ok-starts.ensures.items, sym (place-zero (each_frames c.args.captures.now)))

pub overflow_add-total : goal.overflow_add-total
overflow_add-total c =
    let t = next-file c.args.captures.now c.loop-capture.capture-index c.capture-item.result c.loop-capture-test.true c.capture-item.is in
    let le = t.1 in let total = c.loop-capture.invariant.2 in let l = c.len-total.ensures in let few = c.requires in omega arith

pub loop-capture-preserved : goal.loop-capture-preserved
loop-capture-preserved c =
    let t = next-file c.args.captures.now c.loop-capture.capture-index c.capture-item.result c.loop-capture-test.true c.capture-item.is in
    let next = t.0 in let total = c.loop-capture.invariant.2 in let l = c.len-total.ensures in
    let m = starts-more (each_frames c.args.captures.now) c.loop-capture.starts.items c.push.new.self.items c.loop-capture.capture-index c.loop-capture.total
    c.loop-capture.invariant.0 c.loop-capture.invariant.1 total c.in_ok-push.ensures.items in
    (m.0, m.1, omega arith)

pub returns-clause-total : goal.returns-clause-total
returns-clause-total c =
    let n = length-map c.args.captures.now (λ (x : Capture). x.frames) in let a = c.loop-capture.auto.capture-index-end in let b = c.loop-capture-test.false in
    let last : c.loop-capture.capture-index ≡ length (each_frames c.args.captures.now) = omega arith in
    c.loop-capture.invariant.2 ∙ (ap (λ (i : ℕ). place (each_frames c.args.captures.now) i 0) last ∙ (place-end (each_frames c.args.captures.now) ∙ records-captures c.args.captures.now))
