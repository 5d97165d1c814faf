-- A number that is read is the number that was written, and what was written is read again, in either order.
use Rattle.std.proofs.Common.{◌≡◌, ℕ, ◌+◌, ◌^◌, ◌<◌, ◌≤◌, List, ◌++◌, length, get_or, take, drop, refl, arith, inl, inr}
use Rattle.std.proofs.lemmas.Bool.{cases_lt}
use Rattle.std.proofs.lemmas.List.{length-take, get_or-drop, get_or-take, get_or_past}
use Rattle.std.proofs.lemmas.Nat.{le_bytes_4, be_bytes_4}
use Rattle.byteorder.specs.Endian.{little_number, big_number}
use Rattle.byteorder.specs.Numbers.{little_number-reads_back, little_from-lt, big_number-reads_back, big_from-lt}
use Rattle.ifl_pcap.specs.declared.form.Order.{Order}
use Rattle.ifl_pcap.specs.declared.form.Order.TheVariants.{Little, Big}
use Rattle.ifl_pcap.specs.Numbers.{spelled_in, number_in}

abbrev pub IsBytes : List ℕ → Type 0
IsBytes bytes = (i : ℕ) → get_or bytes i 0 < 256

pub IsBytes-drop : (n : ℕ) (bytes : List ℕ) → IsBytes bytes → IsBytes (drop n bytes)
IsBytes-drop n bytes h i = rw get_or-drop (h (n + i))

pub IsBytes-take : (n : ℕ) (bytes : List ℕ) → IsBytes bytes → IsBytes (take n bytes)
IsBytes-take n bytes h i =
    elim (cases_lt i n) [
      | inl lt ↦ rw (get_or-take n bytes i 0 lt) (h i)
      | inr le ↦ rw (get_or_past (take n bytes) i 0 (omega (arith, length-take n bytes))) (omega arith)
    ]

pub length-spelled_in : (order : Order) (n : ℕ) → length (spelled_in order n) ≡ 4
unfolding spelled_in
length-spelled_in Little n = refl
length-spelled_in Big n = refl

-- four bytes are those of the number in them
pub spelled_in-number_in : (order : Order) (bytes : List ℕ) → 4 ≤ length bytes → IsBytes bytes → spelled_in order (number_in order bytes) ≡ take 4 bytes
unfolding spelled_in number_in
spelled_in-number_in Little bytes long fits =
    le_bytes_4 (take 4 bytes) (little_number 4 bytes) (omega (arith, length-take 4 bytes)) (IsBytes-take 4 bytes fits)
    (omega (arith, get_or-take 4 bytes 0 0 (omega arith), get_or-take 4 bytes 1 0 (omega arith), get_or-take 4 bytes 2 0 (omega arith), get_or-take 4 bytes 3 0 (omega arith)))
spelled_in-number_in Big bytes long fits =
    be_bytes_4 (take 4 bytes) (big_number 4 bytes) (omega (arith, length-take 4 bytes)) (IsBytes-take 4 bytes fits)
    (omega (arith, get_or-take 4 bytes 0 0 (omega arith), get_or-take 4 bytes 1 0 (omega arith), get_or-take 4 bytes 2 0 (omega arith), get_or-take 4 bytes 3 0 (omega arith)))

pub number_in-spelled_in : (order : Order) (n : ℕ) (rest : List ℕ) → n < 2 ^ 32 → number_in order (spelled_in order n ++ rest) ≡ n
unfolding spelled_in number_in
number_in-spelled_in Little n rest lt = little_number-reads_back 4 n rest lt
number_in-spelled_in Big n rest lt = big_number-reads_back 4 n rest lt

pub number_in-lt : (order : Order) (bytes : List ℕ) → IsBytes bytes → number_in order bytes < 2 ^ 32
unfolding number_in
number_in-lt Little bytes fits = little_from-lt 0 4 bytes fits
number_in-lt Big bytes fits = big_from-lt 0 4 bytes fits
