-- The bytes of a frame repeat after 256.
use Rattle.std.proofs.Common.{◌≡◌, ℕ, zero, suc, ◌+◌, ◌*◌, ◌^◌, ◌/◌, ◌%◌, ◌<◌, List, ◌++◌, map, length, get_or, refl, sym, ap, ◌∙◌, arith}
use Rattle.std.specs.List.{range_with_len}
use Rattle.std.specs.Int.{w64, to_le_bytes}
use Rattle.std.proofs.Math.Nat.{div-one, mul-add-mod_self_left, mod-add-mod}
use Rattle.std.proofs.lemmas.List.{map-append}
use Rattle.std.proofs.lemmas.List.FromFn.{length-map-range_with_len}
use Rattle.ifl_gen.specs.Frames.{byte_by, bytes_by}
use Rattle.ifl_gen.proofs.Ranges.{range_with_len-add, map-range_with_len-repeats}

pub length-bytes_by : (x len : ℕ) → length (bytes_by x len) ≡ len
length-bytes_by x len = length-map-range_with_len (byte_by x) 0 len

pub byte_by-repeats : (x q i : ℕ) → byte_by x (256 * q + i) ≡ byte_by x i
unfolding byte_by
byte_by-repeats x q i =
    let eights : 256 * q + i ≡ 8 * (32 * q) + i = omega arith in
    let place : (256 * q + i) % 8 ≡ i % 8 = ap (λ (n : ℕ). n % 8) eights ∙ mul-add-mod_self_left 8 (32 * q) i in
    let part = x / 2 ^ (8 * (i % 8)) in
    let last : part + (256 * q + i) ≡ 256 * q + (part + i) = omega arith in
    ap (λ (k : ℕ). (x / 2 ^ (8 * k) + (256 * q + i)) % 256) place ∙ ap (λ (n : ℕ). n % 256) last ∙ mul-add-mod_self_left 256 q (part + i)

-- whole periods, and the bytes behind them
pub bytes_by-periods : (x q n : ℕ) → bytes_by x (256 * q + n) ≡ bytes_by x (256 * q) ++ bytes_by x n
bytes_by-periods x q n =
    let f = byte_by x in
    let from : 0 + 256 * q ≡ 256 * q + 0 = omega arith in
    ap (map f) (range_with_len-add 0 (256 * q) n) ∙ map-append f (range_with_len 0 (256 * q)) (range_with_len (0 + 256 * q) n)
    ∙ ap (λ (r : List ℕ). bytes_by x (256 * q) ++ r) (ap (λ (a : ℕ). map f (range_with_len a n)) from ∙ map-range_with_len-repeats f (256 * q) 0 n (byte_by-repeats x q))

-- the eight bytes of a number
get_or-to_le_bytes : (x k : ℕ) → k < 8 → get_or (to_le_bytes w64 x) k 0 ≡ x / 2 ^ (8 * k) % 256
get_or-to_le_bytes x zero lt = ap (λ (n : ℕ). n % 256) (sym (div-one x))
get_or-to_le_bytes x (suc zero) lt = refl
get_or-to_le_bytes x (suc (suc zero)) lt = refl
get_or-to_le_bytes x (suc (suc (suc zero))) lt = refl
get_or-to_le_bytes x (suc (suc (suc (suc zero)))) lt = refl
get_or-to_le_bytes x (suc (suc (suc (suc (suc zero))))) lt = refl
get_or-to_le_bytes x (suc (suc (suc (suc (suc (suc zero)))))) lt = refl
get_or-to_le_bytes x (suc (suc (suc (suc (suc (suc (suc zero))))))) lt = refl
get_or-to_le_bytes x (suc (suc (suc (suc (suc (suc (suc (suc k)))))))) lt = absurd (omega arith)

-- a byte of a frame is a byte of the number, and its place
pub byte_by-to_le_bytes : (x i b : ℕ) → i % 8 < 8 → b ≡ get_or (to_le_bytes w64 x) (i % 8) 0 → (b + i) % 256 ≡ byte_by x i
unfolding byte_by
byte_by-to_le_bytes x i b lt is =
    ap (λ (n : ℕ). (n + i) % 256) (is ∙ get_or-to_le_bytes x (i % 8) lt) ∙ mod-add-mod (x / 2 ^ (8 * (i % 8))) 256 i
