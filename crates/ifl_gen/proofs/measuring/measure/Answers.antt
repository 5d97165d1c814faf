use Rattle.std.proofs.Common.{◌≡◌, true, false, refl, arith, nat_lt}
use Rattle.std.proofs.lemmas.Bool.{lt-ltb, le-ltb}
use Rattle.ifl_gen.specs.Measure.{frame_count, measure_of}
use Rattle.ifl_gen.proofs.Sizes.{frame_count-product}
use Rattle.ifl_gen.proofs.measuring.measure.Goals as goal

pub returns-then-traffic : goal.returns-then-traffic
unfolding measure_of
returns-then-traffic c =
    let count = frame_count-product c.args.traffic in
    let more : nat_lt 1000000 (frame_count c.args.traffic) ≡ true = lt-ltb 1000000 (frame_count c.args.traffic) (omega (arith, count, c.if-traffic.true)) in
    rw more refl

pub returns-then-is_too_long : goal.returns-then-is_too_long
unfolding measure_of
returns-then-is_too_long c =
    let count = frame_count-product c.args.traffic in
    let few : nat_lt 1000000 (frame_count c.args.traffic) ≡ false = le-ltb 1000000 (frame_count c.args.traffic) (omega (arith, count, c.if-traffic.false)) in
    rw (few, ← c.is_too_long.ensures, c.if-is_too_long.true) refl

pub returns-else-is_too_long : goal.returns-else-is_too_long
unfolding measure_of
returns-else-is_too_long c =
    let count = frame_count-product c.args.traffic in
    let few : nat_lt 1000000 (frame_count c.args.traffic) ≡ false = le-ltb 1000000 (frame_count c.args.traffic) (omega (arith, count, c.if-traffic.false)) in
    rw (few, ← c.is_too_long.ensures, c.if-is_too_long.false) refl
