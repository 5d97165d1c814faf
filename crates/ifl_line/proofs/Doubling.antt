-- Powers of 2.
use Rattle.std.proofs.Common.{◌≡◌, ℕ, zero, suc, ◌+◌, ◌-◌, ◌*◌, ◌≤◌, ap, arith}

-- 2 to the power n
abbrev pub doubled : ℕ → ℕ
doubled zero = 1
doubled (suc n) = 2 * doubled n

pub doubled-some : (n : ℕ) → 1 ≤ doubled n
doubled-some zero = omega arith
doubled-some (suc n) = let t = doubled-some n in omega arith

doubled-more : (n k : ℕ) → doubled n ≤ doubled (k + n)
doubled-more n zero = let e : 0 + n ≡ n = omega arith in let f : doubled (0 + n) ≡ doubled n = ap doubled e in omega arith
doubled-more n (suc k) = let t = doubled-more n k in let e : suc k + n ≡ suc (k + n) = omega arith in let f : doubled (suc k + n) ≡ 2 * doubled (k + n) = ap doubled e in omega arith

pub doubled-within : (n : ℕ) → n ≤ 16 → doubled n ≤ 65536
doubled-within n le = let e : (16 - n) + n ≡ 16 = omega arith in let t = doubled-more n (16 - n) in let u : doubled ((16 - n) + n) ≡ 65536 = ap doubled e in omega arith
