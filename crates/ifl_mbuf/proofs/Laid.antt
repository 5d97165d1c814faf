-- Bytes laid into clusters from the start of each.
use Rattle.std.proofs.Common.{◌≡◌, ℕ, ◌*◌, ◌<◌, ◌≤◌, List, [], ◌∷◌, ◌++◌, length, refl, sym, ap, ◌∙◌, subst, arith, append_assoc, length-append}
use Rattle.std.specs.Prelude.{take, drop}
use Rattle.std.specs.Int.{div_ceil}
use Rattle.std.proofs.lemmas.Bool.{lt-ltb}
use Rattle.std.proofs.lemmas.Grind.{div_ceil_times}
use Rattle.std.proofs.lemmas.List.{append-nil, take_all, drop_all, take-append-drop, length-take, length-drop}
use Rattle.std.proofs.Math.Seq.{take-append_seam, drop-append_seam}
use Rattle.ifl_mbuf.specs.Segment.{Segment, IsFilled, bytes_of, numbers_of, size, room, extended}
use Rattle.ifl_mbuf.specs.Defrag.{laid, AreWhole, IsDense, IsFilling}
use Rattle.ifl_mbuf.proofs.Segments.{bytes_of-append}

AreWhole-append : (ss : List Segment) (s : Segment) → AreWhole ss → s.off ≡ 0 → length s.bytes ≡ 2048 → AreWhole (ss ++ s ∷ [])
AreWhole-append [] s whole start full = (start, full, tt)
AreWhole-append (t ∷ ts) s whole start full = (whole.0, whole.1, AreWhole-append ts s whole.2 start full)

IsDense-append : (ss : List Segment) (s : Segment) → AreWhole ss → s.off ≡ 0 → IsDense (ss ++ s ∷ [])
IsDense-append [] s whole start = start
IsDense-append (t ∷ []) s whole start = (whole.0, whole.1, start)
IsDense-append (t ∷ u ∷ us) s whole start = (whole.0, whole.1, IsDense-append (u ∷ us) s whole.2 start)

size-whole : (ss : List Segment) → AreWhole ss → size ss ≡ 2048 * length ss
size-whole [] whole = omega arith
size-whole (s ∷ ss) whole = let here = whole.1 in let rest = size-whole ss whole.2 in omega (arith, length-append s.bytes (bytes_of ss))

laid_none : (ns : List ℕ) → laid ns [] ≡ []
laid_none [] = refl
laid_none (n ∷ ns) = refl

laid-cons : (n : ℕ) (ns bytes : List ℕ) → 0 < length bytes → laid (n ∷ ns) bytes ≡ record { number = n; off = 0; bytes = take 2048 bytes } ∷ laid ns (drop 2048 bytes)
laid-cons n ns bytes some = rw (lt-ltb 0 (length bytes) some) refl

-- a segment at the start of its cluster
at_start : (s : Segment) (bytes : List ℕ) → s.off ≡ 0 → bytes ≡ s.bytes → record { number = s.number; off = 0; bytes = bytes } ≡ s
at_start s bytes start is = λ i. record { number = s.number; off = sym start i; bytes = is i }

laid_is : (full : List Segment) (last : Segment) (spare : List ℕ) → IsFilling full last → laid (numbers_of full ++ last.number ∷ spare) (bytes_of full ++ last.bytes) ≡ full ++ last ∷ []
laid_is [] last spare l =
    let some = l.filled.0 in let fits = l.filled.1 in let short : length last.bytes ≤ 2048 = omega arith in
    laid-cons last.number spare last.bytes some ∙ (λ i. at_start last (take 2048 last.bytes) l.start (take_all 2048 last.bytes short) i ∷ (ap (laid spare) (drop_all 2048 last.bytes short) ∙ laid_none spare) i)
laid_is (s ∷ ss) last spare l =
    let rest = laid_is ss last spare (record { whole = l.whole.2; start = l.start; filled = l.filled }) in
    let whole : length s.bytes ≡ 2048 = l.whole.1 in let more = bytes_of ss ++ last.bytes in
    let bytes : bytes_of (s ∷ ss) ++ last.bytes ≡ s.bytes ++ more = append_assoc s.bytes (bytes_of ss) last.bytes in
    let some : 0 < length (s.bytes ++ more) = omega (arith, length-append s.bytes more) in
    let first : take 2048 (s.bytes ++ more) ≡ s.bytes = subst (λ n. take n (s.bytes ++ more) ≡ s.bytes) whole (take-append_seam s.bytes more) in
    let later : drop 2048 (s.bytes ++ more) ≡ more = subst (λ n. drop n (s.bytes ++ more) ≡ more) whole (drop-append_seam s.bytes more) in
    let numbers = numbers_of ss ++ last.number ∷ spare in
    ap (laid (s.number ∷ numbers)) bytes ∙ (laid-cons s.number numbers (s.bytes ++ more) some
    ∙ (λ i. at_start s (take 2048 (s.bytes ++ more)) l.whole.0 first i ∷ (ap (laid numbers) later ∙ rest) i))

-- what is laid, once no bytes are left
pub record IsLaid (full : List Segment) (last : Segment) (numbers all : List ℕ) : Type 0 where
  pub exact : full ++ last ∷ [] ≡ laid numbers all
  pub dense : IsDense (full ++ last ∷ [])
  pub bytes : bytes_of (full ++ last ∷ []) ≡ all
  pub segments : length (full ++ last ∷ []) ≡ div_ceil (length all) 2048

pub laid_end : (full : List Segment) (last : Segment) (spare numbers bytes : List ℕ) → IsFilling full last → numbers_of full ++ last.number ∷ spare ≡ numbers → bytes_of full ++ last.bytes ≡ bytes → IsLaid full last numbers bytes
laid_end full last spare numbers bytes l are is =
    let kept : bytes_of (full ++ last ∷ []) ≡ bytes = bytes_of-append full (last ∷ []) ∙ (ap (λ l. bytes_of full ++ l) (append-nil last.bytes) ∙ is) in
    let some = l.filled.0 in let fits = l.filled.1 in let whole = size-whole full l.whole in let all = ap length is in
    let ceil = div_ceil_times (length bytes) 2048 (omega arith) in let low = ceil.0 in let high = ceil.1 in
    record {
      exact = sym (laid_is full last spare l) ∙ (λ i. laid (are i) (is i));
      dense = IsDense-append full last l.whole l.start;
      bytes = kept;
      segments = omega (arith, length-append full (last ∷ []), length-append (bytes_of full) last.bytes);
    }

-- the cluster that was being filled is full, and another one is begun
pub laid_on : (full : List Segment) (last next start : Segment) → IsFilling full last → IsFilled next → room last < length next.bytes
    → start.off ≡ 0 → start.bytes ≡ drop (room last) next.bytes → IsFilling (full ++ extended last (take (room last) next.bytes) ∷ []) start
laid_on full last next start l filled narrow at_zero is =
    let some = l.filled.0 in let fits = l.filled.1 in let zero_off = l.start in let within = filled.1 in
    let rest = ap length is in let taken = length-append last.bytes (take (room last) next.bytes) in
    record {
      whole = AreWhole-append full (extended last (take (room last) next.bytes)) l.whole l.start (omega (arith, length-take (room last) next.bytes));
      start = at_zero;
      filled = (omega (arith, length-drop (room last) next.bytes), omega (arith, length-drop (room last) next.bytes));
    }

pub bytes_laid_on : (full : List Segment) (last : Segment) (next : List ℕ) (n : ℕ) → bytes_of (full ++ extended last (take n next) ∷ []) ++ drop n next ≡ (bytes_of full ++ last.bytes) ++ next
bytes_laid_on full last next n =
    let here = take n next in let later = drop n next in let before = bytes_of full in
    ap (λ l. l ++ later) (bytes_of-append full (extended last here ∷ []) ∙ (ap (λ l. before ++ l) (append-nil (last.bytes ++ here)) ∙ sym (append_assoc before last.bytes here)))
    ∙ (append_assoc (before ++ last.bytes) here later ∙ ap (λ l. (before ++ last.bytes) ++ l) (take-append-drop n next))
