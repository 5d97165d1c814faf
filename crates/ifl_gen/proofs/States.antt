-- A frame is made from the state that one more step gives.
use Rattle.std.proofs.Common.{◌≡◌, ℕ, suc, ◌+◌, sym, ap, ◌∙◌, arith}
use Rattle.ifl_gen.specs.States.{stepped, after_steps, first_state}
use Rattle.ifl_gen.specs.Frames.{frame_by, frame_of}

pub after_steps-more : (n start x : ℕ) → x ≡ after_steps n start → stepped x ≡ after_steps (n + 1) start
after_steps-more n start x is =
    let one : suc n ≡ n + 1 = omega arith in
    ap stepped is ∙ ap (λ (k : ℕ). after_steps k start) one

pub frame_of-stepped : (seed sender index x : ℕ) → x ≡ after_steps index (first_state seed sender) → frame_of seed sender index ≡ frame_by sender index (stepped x)
unfolding frame_of
frame_of-stepped seed sender index x is = ap (frame_by sender index) (sym (after_steps-more index (first_state seed sender) x is))
