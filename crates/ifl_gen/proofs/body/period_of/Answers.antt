use Rattle.std.proofs.Common.{ℕ, ◌%◌, ◌<◌, ◌≢◌, List, length, get_or, ap, arith, below_more, get_or-set_other, get_or-set_same}
use Rattle.std.proofs.lemmas.List.{length-set}
use Rattle.std.proofs.lemmas.List.FromFn.{fill_by_all}
use Rattle.std.proofs.lemmas.Nat.{mod_below}
use Rattle.ifl_gen.specs.Frames.{byte_by}
use Rattle.ifl_gen.proofs.Bytes.{byte_by-to_le_bytes}
use Rattle.ifl_gen.proofs.body.period_of.Goals as goal

pub loop-i-preserved : goal.loop-i-preserved
loop-i-preserved c =
    let i = c.loop-i.i in
    let part = get_or c.to_le_bytes-word.result (i % 8) 0 in
    let is = ap (λ (w : List ℕ). get_or w (i % 8) 0) c.to_le_bytes-word.ensures in
    let made = byte_by-to_le_bytes c.args.x i part (mod_below i 8 (omega arith)) is in
    let long = c.loop-i.invariant.0 in (
      rw length-set long,
      below_more _ _
          (λ k h. let ne : k ≢ i = omega arith in rw get_or-set_other (c.loop-i.invariant.1 k h))
          (let lt : i < length c.loop-i.period = omega arith in rw get_or-set_same made),
    )

pub returns : goal.returns
returns c = fill_by_all (byte_by c.args.x) c.loop-i.period 256 0 c.loop-i.invariant.0 (λ k lt. c.loop-i.invariant.1 k (omega arith))
