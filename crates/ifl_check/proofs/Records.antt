-- The records on the wire, one after another.
use Rattle.std.proofs.Common.{◌≡◌, ℕ, ◌+◌, ◌%◌, ◌<◌, ◌≤◌, List, [], ◌∷◌, ◌++◌, length, get_or, take, drop, sym, refl, ap, ◌∙◌, arith}
use Rattle.std.specs.Int.{byte_at}
use Rattle.std.specs.List.{flat_map}
use Rattle.std.proofs.Math.Seq.{take-length}
use Rattle.std.proofs.lemmas.Grind.{flat_map-append}
use Rattle.std.proofs.lemmas.List.{append_cancel_left, append-nil, take_more, take-append-drop}
use Rattle.std.proofs.lemmas.List.Concat.{flat_map-cons}
use mathlib.Core.List.{append_assoc}
use Rattle.ifl_pcap.specs.declared.form.Order.TheVariants.{Little}
use Rattle.ifl_base.specs.declared.ticket.Stamp.{Stamp}
use Rattle.ifl_pcap.specs.declared.frame.Frame.{Frame}
use Rattle.ifl_pcap.specs.File.{record_of}
use Rattle.ifl_pcap.specs.Numbers.{spelled_in}

-- the bytes of a number are those of its low 32 bits
pub spelled_in-low : (n : ℕ) → spelled_in Little (n % 4294967296) ≡ spelled_in Little n
unfolding spelled_in
spelled_in-low n =
    let a : byte_at 0 (n % 4294967296) ≡ byte_at 0 n = omega arith in
    let b : byte_at 1 (n % 4294967296) ≡ byte_at 1 n = omega arith in
    let c : byte_at 2 (n % 4294967296) ≡ byte_at 2 n = omega arith in
    let d : byte_at 3 (n % 4294967296) ≡ byte_at 3 n = omega arith in
    (λ i. a i ∷ b i ∷ c i ∷ d i ∷ [])

-- a text that begins with what the first elements make, and goes on with what the others do
pub rest-flat_map : {X A : Type 0} (f : X → List A) (xs : List X) (i : ℕ) (d : X) (text front rest : List A) → i < length xs → text ≡ front ++ (flat_map f (take i xs) ++ rest) → text ≡ front ++ flat_map f xs
    → rest ≡ f (get_or xs i d) ++ flat_map f (drop (i + 1) xs)
rest-flat_map {A = A} f xs i d text front rest lt a b =
    let split : flat_map f xs ≡ flat_map f (take i xs) ++ (f (get_or xs i d) ++ flat_map f (drop (i + 1) xs)) =
    ap (flat_map f) (sym (take-append-drop (i + 1) xs)) ∙ flat_map-append f (take (i + 1) xs) (drop (i + 1) xs)
    ∙ ap (λ (z : List A). z ++ flat_map f (drop (i + 1) xs)) (ap (flat_map f) (take_more xs i d lt) ∙ flat_map-append f (take i xs) (get_or xs i d ∷ [])
    ∙ ap (λ (z : List A). flat_map f (take i xs) ++ z) (flat_map-cons f (get_or xs i d) [] ∙ append-nil (f (get_or xs i d))))
    ∙ append_assoc (flat_map f (take i xs)) (f (get_or xs i d)) (flat_map f (drop (i + 1) xs)) in
    append_cancel_left (flat_map f (take i xs)) rest _ (append_cancel_left front _ _ (sym a ∙ b) ∙ split)

-- all elements, and nothing behind them
pub all-flat_map : {X A : Type 0} (f : X → List A) (xs : List X) (n : ℕ) (text front : List A) → length xs ≤ n → n ≤ length xs → text ≡ front ++ (flat_map f (take n xs) ++ []) → text ≡ front ++ flat_map f xs
all-flat_map {A = A} f xs n text front a b e =
    let same : n ≡ length xs = omega arith in
    e ∙ ap (λ (z : List A). front ++ z) (append-nil (flat_map f (take n xs)) ∙ ap (flat_map f) (ap (λ (m : ℕ). take m xs) same ∙ take-length xs))

-- what is made of elements is made of what they make
pub flat_map-flat_map : {X Y A : Type 0} (g : Y → List A) (f : X → List Y) (xs : List X) → flat_map g (flat_map f xs) ≡ flat_map (λ x. flat_map g (f x)) xs
flat_map-flat_map g f [] = refl
flat_map-flat_map {A = A} g f (x ∷ xs) = ap (flat_map g) (flat_map-cons f x xs) ∙ flat_map-append g (f x) (flat_map f xs) ∙ ap (λ (z : List A). flat_map g (f x) ++ z) (flat_map-flat_map g f xs) ∙ sym (flat_map-cons (λ y. flat_map g (f y)) x xs)

-- a record in its parts
pub record-parts : (f : Frame) (st : Stamp) (low : ℕ) (bytes : List ℕ) → st ≡ f.stamp → low ≡ length f.bytes % 4294967296 → bytes ≡ f.bytes
    → spelled_in Little st.sec ++ (spelled_in Little st.usec ++ (spelled_in Little low ++ (spelled_in Little st.orig ++ bytes))) ≡ record_of f
record-parts f st low bytes e l b =
    let len : spelled_in Little low ≡ spelled_in Little (length f.bytes) = ap (spelled_in Little) l ∙ spelled_in-low (length f.bytes) in
    (λ i. spelled_in Little (e i).sec ++ (spelled_in Little (e i).usec ++ (len i ++ (spelled_in Little (e i).orig ++ b i))))

-- nothing is left behind all elements
pub rest-all : {X A : Type 0} (f : X → List A) (xs : List X) (n : ℕ) (text front rest : List A) → length xs ≤ n → n ≤ length xs → text ≡ front ++ (flat_map f (take n xs) ++ rest) → text ≡ front ++ flat_map f xs → rest ≡ []
rest-all {A = A} f xs n text front rest a b e h =
    let same : n ≡ length xs = omega arith in
    let whole : flat_map f (take n xs) ≡ flat_map f xs = ap (flat_map f) (ap (λ (m : ℕ). take m xs) same ∙ take-length xs) in
    append_cancel_left (flat_map f xs) rest [] (ap (λ (z : List A). z ++ rest) (sym whole) ∙ append_cancel_left front _ _ (sym e ∙ h) ∙ sym (append-nil (flat_map f xs)))

pub nil-length : {A : Type 0} (xs : List A) → length xs ≡ 0 → xs ≡ []
nil-length [] h = refl
nil-length (x ∷ xs) h = absurd (omega arith)
