-- Lists of descriptors and their frames, of which some were filled.
use Rattle.std.proofs.Common.{◌≡◌, ℕ, zero, suc, ◌+◌, ◌<◌, ◌≤◌, Bool, true, false, cond, List, [], ◌∷◌, ◌++◌, length, map, take, drop, sym, refl, ap, ◌∙◌, arith, length-append}
use Rattle.std.specs.List.{flat_map}
use Rattle.std.proofs.lemmas.List.{map-append}
use Rattle.ifl_pcap.specs.declared.frame.Frame.{Frame}
use Rattle.ifl_pcap.specs.File.{written, written_header, record_of}
use Rattle.ifl_pcap.proofs.Parts.{length-record_of}
use Rattle.ifl_desc.specs.declared.desc.Desc.{Desc}
use Rattle.ifl_desc.specs.Frames.{open_after, frames_from, frames_of, IsWholeFrame}
use Rattle.ifl_device.specs.Adapter.{captured, record_size}
use Rattle.ifl_device.specs.Receive.{is_filled}
use Rattle.ifl_desc.proofs.Splitting.{frames_append, no_tail}
use Rattle.ifl_device.proofs.Records.{header_length}
use Rattle.ifl_device.proofs.Engines.{flat_more}
use Rattle.ifl_rxq.specs.FreeLists.{filled_of}

-- the frames of two lists, the first of which ends with a frame
pub frames_both : (xs ys : List Desc) → open_after 0 xs ≡ 0 → frames_of (xs ++ ys) ≡ frames_of xs ++ frames_of ys
frames_both xs ys o = frames_append [] xs ys ∙ ap (λ (z : List Desc). frames_from [] xs ++ frames_from z ys) (no_tail xs o)

pub whole_open : (n : ℕ) (ds : List Desc) → IsWholeFrame ds → open_after n ds ≡ 0
whole_open n [] w = absurd w
whole_open n (d ∷ []) w = ap (λ (b : Bool). cond b 0 (suc n)) w
whole_open n (d ∷ (x ∷ ds)) w = whole_open (cond d.last 0 (suc n)) (x ∷ ds) w.1

-- a beginning of a whole frame, short of its end, ends with no frame
pub whole_front : (n : ℕ) (xs : List Desc) (y : Desc) (ys : List Desc) → IsWholeFrame (xs ++ y ∷ ys) → open_after n xs ≡ n + length xs
whole_front n [] y ys w = omega arith
whole_front n (d ∷ []) y ys w = ap (λ (b : Bool). cond b 0 (suc n)) w.0 ∙ (let g : suc n ≡ n + 1 = omega arith in g)
whole_front n (d ∷ (x ∷ xs)) y ys w = ap (λ (b : Bool). open_after (cond b 0 (suc n)) (x ∷ xs)) w.0 ∙ whole_front (suc n) (x ∷ xs) y ys w.1 ∙ (let g : suc n + suc (length xs) ≡ n + suc (suc (length xs)) = omega arith in g)

last_marked : (b : Bool) (n : ℕ) (f : List Desc) (p : List Desc) → open_after (cond b 0 (suc n)) [] ≡ 0 → 0 < length (cond b (f ∷ []) (frames_from p []))
last_marked true n f p o = omega arith
last_marked false n f p o = absurd (omega arith)

marked_or_more : (b : Bool) (n : ℕ) (f : List Desc) (p xs : List Desc) → open_after (cond b 0 (suc n)) xs ≡ 0 → (open_after (suc n) xs ≡ 0 → 0 < length (frames_from p xs)) → 0 < length (cond b (f ∷ frames_from [] xs) (frames_from p xs))
marked_or_more true n f p xs o more = omega arith
marked_or_more false n f p xs o more = more o

-- a list that ends with a frame has one, if it has an entry
pub some_frames : (p : List Desc) (n : ℕ) (d : Desc) (ds : List Desc) → open_after n (d ∷ ds) ≡ 0 → 0 < length (frames_from p (d ∷ ds))
some_frames p n d [] o = last_marked d.last n (p ++ d ∷ []) (p ++ d ∷ []) o
some_frames p n d (x ∷ ds) o = marked_or_more d.last n (p ++ d ∷ []) (p ++ d ∷ []) (x ∷ ds) o (some_frames (p ++ d ∷ []) (suc n) x ds)

pub filled_append : (xs ys : List (List Desc)) → filled_of (xs ++ ys) ≡ filled_of xs ++ filled_of ys
filled_append [] ys = refl
filled_append (f ∷ xs) ys = by_fill (is_filled f) (filled_append xs ys)
  where
    by_fill : (b : Bool) → filled_of (xs ++ ys) ≡ filled_of xs ++ filled_of ys → cond b (f ∷ filled_of (xs ++ ys)) (filled_of (xs ++ ys)) ≡ cond b (f ∷ filled_of xs) (filled_of xs) ++ filled_of ys
    by_fill true e = ap (λ (z : List (List Desc)). f ∷ z) e
    by_fill false e = e

pub filled_few : (fs : List (List Desc)) → length (filled_of fs) ≤ length fs
filled_few [] = omega arith
filled_few (f ∷ fs) = by_fill (is_filled f) (filled_few fs)
  where
    by_fill : (b : Bool) → length (filled_of fs) ≤ length fs → length (cond b (f ∷ filled_of fs) (filled_of fs)) ≤ suc (length fs)
    by_fill true e = omega arith
    by_fill false e = omega arith

-- the bytes of the records of frames
abbrev pub records : List (List Desc) → ℕ
records fs = length (flat_map record_of (map captured fs))

pub records_append : (xs ys : List (List Desc)) → records (xs ++ ys) ≡ records xs + records ys
records_append xs ys = ap (λ (z : List Frame). length (flat_map record_of z)) (map-append captured xs ys) ∙ ap length (flat_more (map captured xs) (map captured ys)) ∙ length-append (flat_map record_of (map captured xs)) (flat_map record_of (map captured ys))

pub records_first : (f : List Desc) (fs : List (List Desc)) → records (f ∷ fs) ≡ record_size f + records fs
records_first f fs = let a = length-append (record_of (captured f)) (flat_map record_of (map captured fs)) in let l = length-record_of (captured f) in omega arith

-- the length of a capture
pub written_length : (fs : List (List Desc)) → length (written (map captured fs)) ≡ 24 + records fs
written_length fs = let h = header_length in let a = length-append written_header (flat_map record_of (map captured fs)) in let b = length-append written_header [] in omega arith

pub take_front : (n : ℕ) (xs ys : List Desc) → n ≤ length xs → take n (xs ++ ys) ≡ take n xs
take_front zero xs ys h = refl
take_front (suc n) [] ys h = absurd (omega arith)
take_front (suc n) (x ∷ xs) ys h = ap (λ (z : List Desc). x ∷ z) (take_front n xs ys (omega arith))

pub take_drop : (n : ℕ) (xs : List Desc) → xs ≡ take n xs ++ drop n xs
take_drop zero xs = refl
take_drop (suc n) [] = refl
take_drop (suc n) (x ∷ xs) = ap (λ (z : List Desc). x ∷ z) (take_drop n xs)

pub take_length : (n : ℕ) (xs : List Desc) → n ≤ length xs → length (take n xs) ≡ n
take_length zero xs h = refl
take_length (suc n) [] h = absurd (omega arith)
take_length (suc n) (x ∷ xs) h = let i = take_length n xs (omega arith) in omega arith

pub take_whole : (xs : List Desc) → take (length xs) xs ≡ xs
take_whole [] = refl
take_whole (x ∷ xs) = ap (λ (z : List Desc). x ∷ z) (take_whole xs)

-- of two beginnings of one list the shorter is a beginning of the longer
pub two_fronts : (xs rest ys more : List Desc) → xs ++ rest ≡ ys ++ more → length ys ≤ length xs → (mid : List Desc) × (xs ≡ ys ++ mid) × (more ≡ mid ++ rest)
two_fronts xs rest [] more e h = (xs, refl, sym e)
two_fronts [] rest (y ∷ ys) more e h = absurd (omega arith)
two_fronts (x ∷ xs) rest (y ∷ ys) more e h =
    let i = two_fronts xs rest ys more (ap (drop 1) e) (omega arith) in
    (i.0, (λ j. first x y (e j) ∷ i.1 j), i.2)
  where
    first : Desc → Desc → List Desc → Desc
    first x y [] = x
    first x y (z ∷ zs) = z
