-- Segments as they lie in clusters.
use Rattle.std.proofs.Common.{◌≡◌, ℕ, ◌+◌, ◌-◌, ◌*◌, ◌≤◌, List, [], ◌∷◌, ◌++◌, length, map, refl, sym, ap, ◌∙◌, arith, append_assoc, length-append}
use Rattle.std.specs.Prelude.{take, drop}
use Rattle.std.proofs.lemmas.List.{length-take, length-drop, length-map, map-append, drop-take, drop-drop, drop-append-le}
use Rattle.std.proofs.lemmas.Slice.{take-put_mid}
use borrow.Rule.Slice.PartMut.{put_mid}
use Rattle.ifl_mbuf.specs.declared.node.Body.{Body}
use Rattle.ifl_mbuf.specs.Layout.{segment_of, Fits, IsFull, AllFull, AllWhole, HoldChain, HoldFreed}
use Rattle.ifl_mbuf.specs.Segment.{Segment, bytes_of, size, AreFilled, IsChain}
use Rattle.ifl_mbuf.specs.Trim.{behind}

-- the length of a part that lies within its cluster
pub len_is : (b : Body) → Fits b → length (segment_of b).bytes ≡ b.len
len_is b f = let within = f.0 in let whole = f.1 in grind (arith, length-take, length-drop)

-- the part without its first n bytes
pub cut_is : (b : Body) (n : ℕ) → n ≤ b.len → segment_of (record { number = b.number; off = b.off + n; len = b.len - n; bytes = b.bytes }) ≡ behind n (segment_of b)
cut_is b n le =
    let all : n + (b.len - n) ≡ b.len = omega arith in
    let dropped : take (b.len - n) (drop (b.off + n) b.bytes) ≡ drop n (take b.len (drop b.off b.bytes)) =
    ap (take (b.len - n)) (sym (drop-drop n b.off b.bytes)) ∙ (sym (drop-take n (b.len - n) (drop b.off b.bytes)) ∙ ap (λ k. drop n (take k (drop b.off b.bytes))) all) in
    ap (λ bs. record { number = b.number; off = b.off + n; bytes = bs }) dropped

-- the part with m bytes written behind it
pub absorbed : (b : Body) (m k : ℕ) (ys : List ℕ) → length ys ≡ m → k ≡ m → b.off + b.len + m ≤ 2048 → length b.bytes ≡ 2048
    → take (b.len + m) (drop b.off (put_mid (b.off + b.len) k b.bytes ys)) ≡ take b.len (drop b.off b.bytes) ++ ys
absorbed b m k ys e f le whole =
    let a : ℕ = b.off + b.len in let P : List ℕ = put_mid a k b.bytes ys in
    let n : b.off + (b.len + m) ≡ a + length ys = omega arith in
    let h : length (take a b.bytes) ≡ a = grind (arith, length-take) in
    let low : b.off ≤ length (take a b.bytes) = omega arith in
    sym (drop-take b.off (b.len + m) P) ∙ (ap (drop b.off) (take-put_mid a k b.bytes ys (b.off + (b.len + m)) n (omega arith)) ∙ (drop-append-le b.off (take a b.bytes) ys low ∙ ap (λ l. l ++ ys) (drop-take b.off b.len b.bytes)))

pub bytes_of-append : (xs ys : List Segment) → bytes_of (xs ++ ys) ≡ bytes_of xs ++ bytes_of ys
bytes_of-append [] ys = refl
bytes_of-append (x ∷ xs) ys = ap (λ l. x.bytes ++ l) (bytes_of-append xs ys) ∙ sym (append_assoc x.bytes (bytes_of xs) (bytes_of ys))

pub size-append : (xs ys : List Segment) → size (xs ++ ys) ≡ size xs + size ys
size-append xs ys = ap length (bytes_of-append xs ys) ∙ length-append (bytes_of xs) (bytes_of ys)

AllFull-append : (xs ys : List Body) → AllFull xs → AllFull ys → AllFull (xs ++ ys)
AllFull-append [] ys a b = b
AllFull-append (x ∷ xs) ys a b = (a.0, AllFull-append xs ys a.1 b)

AllWhole-append : (xs ys : List Body) → AllWhole xs → AllWhole ys → AllWhole (xs ++ ys)
AllWhole-append [] ys a b = b
AllWhole-append (x ∷ xs) ys a b = (a.0, AllWhole-append xs ys a.1 b)

size_max : (bs : List Body) → AllFull bs → size (map segment_of bs) ≤ 2048 * length bs
size_max [] a = omega arith
size_max (b ∷ bs) a =
    let within = a.0.0.0 in let len = len_is b a.0.0 in let rest = size_max bs a.1 in
    omega (arith, length-append (segment_of b).bytes (bytes_of (map segment_of bs)))

-- what a chain's clusters say of its number of bytes
pub len_max : (bs : List Body) (len : ℕ) → HoldChain bs len → len ≤ 2048 * 64
len_max bs len h = let short = h.short in let is = h.len_is in let most = size_max bs h.full in omega arith

pub HoldChain-append : (xs ys : List Body) (l k : ℕ) → HoldChain xs l → HoldChain ys k → length xs + length ys ≤ 64 → HoldChain (xs ++ ys) (l + k)
HoldChain-append xs ys l k h j short = record {
  short = omega (arith, length-append xs ys);
  len_is = (let a = h.len_is in let b = j.len_is in let e = size-append (map segment_of xs) (map segment_of ys) in let sum : l + k ≡ size (map segment_of xs ++ map segment_of ys) = omega arith in sum) ∙ ap size (sym (map-append segment_of xs ys));
  full = AllFull-append xs ys h.full j.full;
}

pub HoldChain-single : (b : Body) → IsFull b → HoldChain (b ∷ []) b.len
HoldChain-single b f = record {
  short = omega arith;
  len_is = let e = len_is b f.0 in omega (arith, length-append (segment_of b).bytes []);
  full = (f, tt);
}

AreFilled-map : (bs : List Body) → AllFull bs → AreFilled (map segment_of bs)
AreFilled-map [] a = tt
AreFilled-map (b ∷ bs) a = let e = len_is b a.0.0 in let within = a.0.0.0 in let some = a.0.1 in ((omega arith, omega arith), AreFilled-map bs a.1)

-- what the clusters of a chain say of its segments
pub IsChain-map : (bs : List Body) (len : ℕ) → HoldChain bs len → IsChain (map segment_of bs)
IsChain-map bs len h = record { short = (let s = h.short in omega (arith, length-map bs segment_of)); filled = AreFilled-map bs h.full }

pub HoldFreed-append : (xs ys : List Body) → HoldFreed xs → HoldFreed ys → length xs + length ys ≤ 64 → HoldFreed (xs ++ ys)
HoldFreed-append xs ys h j short = record { short = omega (arith, length-append xs ys); whole = AllWhole-append xs ys h.whole j.whole }
