-- The four numbers of a record, and what stands behind them.
use Rattle.std.proofs.Common.{◌≡◌, ℕ, ◌+◌, List, ◌++◌, length, take, drop, sym, ap, ◌∙◌, append_assoc, arith}
use Rattle.std.proofs.lemmas.List.{drop_at, drop-drop, take-append-drop, length-append}
use Rattle.ifl_pcap.specs.declared.form.Order.{Order}
use Rattle.ifl_pcap.specs.declared.form.Order.TheVariants.{Little}
use Rattle.ifl_pcap.specs.declared.frame.Frame.{Frame}
use Rattle.ifl_pcap.specs.Numbers.{spelled_in}
use Rattle.ifl_pcap.specs.File.{record_with, record_of}
use Rattle.ifl_pcap.proofs.Numbers.{length-spelled_in}

-- a record has 16 bytes and the frame's
pub length-record_with : (order : Order) (fraction : ℕ) (f : Frame) → length (record_with order fraction f) ≡ 16 + length f.bytes
length-record_with order fraction f =
    let sec = spelled_in order f.stamp.sec in let count = spelled_in order fraction in let len = spelled_in order (length f.bytes) in let orig = spelled_in order f.stamp.orig in
    omega (
      arith,
      length-append sec (count ++ (len ++ (orig ++ f.bytes))),
      length-append count (len ++ (orig ++ f.bytes)),
      length-append len (orig ++ f.bytes),
      length-append orig f.bytes,
      length-spelled_in order f.stamp.sec,
      length-spelled_in order fraction,
      length-spelled_in order (length f.bytes),
      length-spelled_in order f.stamp.orig,
    )

pub length-record_of : (f : Frame) → length (record_of f) ≡ 16 + length f.bytes
length-record_of f = length-record_with Little f.stamp.usec f

pub append_assoc-five : (a b c d e f : List ℕ) → (a ++ (b ++ (c ++ (d ++ e)))) ++ f ≡ a ++ (b ++ (c ++ (d ++ (e ++ f))))
append_assoc-five a b c d e f = simp append_assoc

four_more : (n : ℕ) (bytes : List ℕ) → drop n bytes ≡ take 4 (drop n bytes) ++ drop (n + 4) bytes
four_more n bytes = sym (take-append-drop 4 (drop n bytes)) ∙ ap (λ (r : List ℕ). take 4 (drop n bytes) ++ r) (drop-drop 4 n bytes)

-- 16 bytes in four parts, and what stands behind them in two
pub parts_of : (a b c d e f bytes : List ℕ) → a ≡ take 4 bytes → b ≡ take 4 (drop 4 bytes) → c ≡ take 4 (drop 8 bytes) → d ≡ take 4 (drop 12 bytes) → e ++ f ≡ drop 16 bytes → bytes ≡ (a ++ (b ++ (c ++ (d ++ e)))) ++ f
parts_of a b c d e f bytes ea eb ec ed ef =
    let more : (xs ys zs : List ℕ) → ys ≡ zs → xs ++ ys ≡ xs ++ zs = λ xs ys zs is. ap (λ (r : List ℕ). xs ++ r) is in
    let three = four_more 12 bytes ∙ more (take 4 (drop 12 bytes)) (drop 16 bytes) (e ++ f) (sym ef) in
    let two = four_more 8 bytes ∙ more (take 4 (drop 8 bytes)) _ _ three in
    let one = four_more 4 bytes ∙ more (take 4 (drop 4 bytes)) _ _ two in
    let all = sym (take-append-drop 4 bytes) ∙ more (take 4 bytes) _ _ one in
    rw (append_assoc-five a b c d e f, ea, eb, ec, ed) all

-- what stands behind a number
pub behind : (order : Order) (n k : ℕ) (bytes rest : List ℕ) → drop k bytes ≡ spelled_in order n ++ rest → drop (k + 4) bytes ≡ rest
behind order n k bytes rest is = sym (drop-drop 4 k bytes) ∙ ap (drop 4) is ∙ drop_at (spelled_in order n) rest 4 (length-spelled_in order n)
