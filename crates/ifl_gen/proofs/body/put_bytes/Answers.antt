use Rattle.std.proofs.Common.{◌≡◌, ℕ, ◌+◌, ◌*◌, ◌/◌, ◌%◌, ◌≤◌, List, ◌++◌, take, sym, ap, ◌∙◌, append_assoc, arith}
use Rattle.std.proofs.Math.Nat.{div-add-mod}
use Rattle.std.proofs.lemmas.List.FromFn.{take-map-range_with_len}
use Rattle.std.proofs.lemmas.Nat.{mod_below}
use Rattle.ifl_gen.specs.Frames.{byte_by, bytes_by}
use Rattle.ifl_gen.proofs.Bytes.{bytes_by-periods}
use Rattle.ifl_gen.proofs.body.put_bytes.Goals as goal

-- some of a frame's bytes behind whole periods
append-bytes_by : (old out new more : List ℕ) (x q n : ℕ) → out ≡ old ++ bytes_by x (256 * q) → more ≡ bytes_by x n → new ≡ out ++ more → new ≡ old ++ bytes_by x (256 * q + n)
append-bytes_by old out new more x q n before is added =
    let whole = bytes_by x (256 * q) in
    added ∙ ap (λ (o : List ℕ). o ++ more) before ∙ append_assoc old whole more ∙ ap (λ (r : List ℕ). old ++ (whole ++ r)) is ∙ ap (λ (r : List ℕ). old ++ r) (sym (bytes_by-periods x q n))

pub loop-turn-preserved : goal.loop-turn-preserved
loop-turn-preserved c =
    let q = c.loop-turn._turn in
    let x = c.args.x in
    let old = c.args.out.now.items in
    let on : 256 * q + 256 ≡ 256 * (q + 1) = omega arith in
    append-bytes_by old c.loop-turn.out.items c.extend_from_slice.new.self.items c.period_of-period.result x q 256 c.loop-turn.invariant c.period_of-period.ensures c.in_ok-extend_from_slice.ensures.items
    ∙ ap (λ (n : ℕ). old ++ bytes_by x n) on

pub returns : goal.returns
returns c =
    let len = c.args.len in
    let x = c.args.x in
    let old = c.args.out.now.items in
    let rest = len % 256 in
    let few : rest ≤ 256 = omega (arith, mod_below len 256 (omega arith)) in
    let cut : take rest c.period_of-period.result ≡ bytes_by x rest = ap (take rest) c.period_of-period.ensures ∙ take-map-range_with_len (byte_by x) 0 256 rest few in
    let turns : c.loop-turn._turn ≡ len / 256 = omega arith in
    let all : 256 * c.loop-turn._turn + rest ≡ len = ap (λ (q : ℕ). 256 * q + rest) turns ∙ div-add-mod len 256 in
    append-bytes_by old c.loop-turn.out.items c.extend_from_slice-2.new.self.items (take rest c.period_of-period.result) x c.loop-turn._turn rest c.loop-turn.invariant cut c.in_ok-extend_from_slice-2.ensures.items
    ∙ ap (λ (n : ℕ). old ++ bytes_by x n) all
