-- What traffic that fits is known to have.
use Rattle.std.proofs.Common.{◌≡◌, ℕ, ◌≤◌, Bool, true, false, List, [], ◌∷◌, map, length, sum, nat_lt, if◌then◌else◌, refl}
use Rattle.std.specs.List.{All, list_any}
use Rattle.std.proofs.lemmas.Bool.{or_parts, ltb-false}
use Rattle.std.proofs.lemmas.List.Elements.{All-nil, All-cons}
use Rattle.ifl_pcap.specs.declared.frame.Frame.{Frame}
use Rattle.ifl_pcap.specs.File.{written}
use Rattle.ifl_gen.specs.declared.traffic.Traffic.{Traffic}
use Rattle.ifl_gen.specs.declared.measuring.Measured.TheVariants.{Fits, TooManyFrames, TooManyBytes}
use Rattle.ifl_gen.specs.Frames.{generated}
use Rattle.ifl_gen.specs.Measure.{frame_count, sizes, are_too_long, measure_of}

no_frames : TooManyFrames ≡ Fits → ⊥
no_frames e = cc

no_bytes : TooManyBytes ≡ Fits → ⊥
no_bytes e = cc

-- it fits where neither test is met
neither : (a b : Bool) → (if a then TooManyFrames else (if b then TooManyBytes else Fits)) ≡ Fits → (a ≡ false) × (b ≡ false)
neither true b e = absurd (no_frames e)
neither false true e = absurd (no_bytes e)
neither false false e = (refl, refl)

tests-Fits : (t : Traffic) → measure_of t ≡ Fits → (nat_lt 1000000 (frame_count t) ≡ false) × (are_too_long (sizes t) ≡ false)
unfolding measure_of
tests-Fits t e = neither (nat_lt 1000000 (frame_count t)) (are_too_long (sizes t)) e

-- none of some numbers is above the most
All-list_any-false : {A : Type 0} (f : A → ℕ) (most : ℕ) (xs : List A) → list_any (nat_lt most) (map f xs) ≡ false → All (λ x. f x ≤ most) xs
All-list_any-false f most [] e = All-nil (λ x. f x ≤ most)
All-list_any-false f most (x ∷ xs) e =
    let parts = or_parts (nat_lt most (f x)) (list_any (nat_lt most) (map f xs)) e in
    All-cons (λ x. f x ≤ most) x xs (ltb-false most (f x) parts.0) (All-list_any-false f most xs parts.1)

pub frame_count-Fits : (t : Traffic) → measure_of t ≡ Fits → frame_count t ≤ 1000000
frame_count-Fits t e = ltb-false 1000000 (frame_count t) (tests-Fits t e).0

pub All-length-Fits : (t : Traffic) → measure_of t ≡ Fits → All (λ fs. length (written fs) ≤ 67108864) (generated t)
All-length-Fits t e =
    let parts = or_parts (list_any (nat_lt 67108864) (sizes t)) (nat_lt 134217728 (sum (sizes t))) (tests-Fits t e).1 in
    All-list_any-false (λ (fs : List Frame). length (written fs)) 67108864 (generated t) parts.0

pub sum-sizes-Fits : (t : Traffic) → measure_of t ≡ Fits → sum (sizes t) ≤ 134217728
sum-sizes-Fits t e =
    let parts = or_parts (list_any (nat_lt 67108864) (sizes t)) (nat_lt 134217728 (sum (sizes t))) (tests-Fits t e).1 in
    ltb-false 134217728 (sum (sizes t)) parts.1
