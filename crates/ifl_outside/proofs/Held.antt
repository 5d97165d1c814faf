-- What a look-up by name finds in the entries of a host in memory.
use Rattle.std.proofs.Common.{◌≡◌, ℕ, zero, suc, ◌+◌, ◌<◌, ◌≤◌, Bool, true, false, cond, List, [], ◌∷◌, length, get_or, Option, Some, None, refl, sym, ap, subst, ◌∙◌, arith}
use Rattle.std.specs.Prelude.{IsSomeAnd}
use Rattle.std.specs.Str.{bytes_eq}
use Rattle.std.specs.String.{string_bytes}
use Rattle.std.specs.List.{position, position_from}
use Rattle.std.proofs.lemmas.Iterator.Adapters.{position_from-zero}
use Rattle.std.proofs.lemmas.Slice.Eq.{bytes_eq-Decides}
use Rattle.ifl_outside.specs.declared.entry.FileEntry.{FileEntry}
use Rattle.ifl_outside.specs.Files.{held}
use Rattle.ifl_outside.specs.Entries.{files_of}

-- the entry has that name
abbrev pub bears : List ℕ → FileEntry → Bool
bears name e = bytes_eq (string_bytes e.name) name

pub bytes_eq-is : (xs ys : List ℕ) → bytes_eq xs ys ≡ true → xs ≡ ys
bytes_eq-is xs ys h = (bytes_eq-Decides xs ys).0 h

pub bytes_eq-refl : (xs : List ℕ) → bytes_eq xs xs ≡ true
bytes_eq-refl xs = (bytes_eq-Decides xs xs).1 refl

-- a place that was found from j on is not before j
pub position_from-le : (name : List ℕ) (es : List FileEntry) (j i : ℕ) → position_from (bears name) j es ≡ Some i → j ≤ i
position_from-le name [] j i e = absurd cc
position_from-le name (x ∷ es) j i e = elim (bears name x) as (λ b. cond b (Some j) (position_from (bears name) (j + 1) es) ≡ Some i → j ≤ i) [
  | true ↦ λ e. let same : j ≡ i = cc in omega arith
  | false ↦ λ e. let later : j + 1 ≤ i = position_from-le name es (j + 1) i e in omega arith
] e

held-none_from : (name : List ℕ) (es : List FileEntry) (j : ℕ) → position_from (bears name) j es ≡ None → held (files_of es) name ≡ None
held-none_from name [] j e = refl
held-none_from name (x ∷ es) j e = elim (bears name x) as (λ b. cond b (Some j) (position_from (bears name) (j + 1) es) ≡ None → cond b (Some x.bytes) (held (files_of es) name) ≡ None) [
  | true ↦ λ e. absurd cc
  | false ↦ λ e. held-none_from name es (j + 1) e
] e

held-some_from : (name : List ℕ) (es : List FileEntry) (j k : ℕ) (d : FileEntry) → position_from (bears name) j es ≡ Some (j + k) → held (files_of es) name ≡ Some (get_or es k d).bytes
held-some_from name [] j k d e = absurd cc
held-some_from name (x ∷ es) j zero d e = elim (bears name x) as (λ b. cond b (Some j) (position_from (bears name) (j + 1) es) ≡ Some (j + 0) → cond b (Some x.bytes) (held (files_of es) name) ≡ Some x.bytes) [
  | true ↦ λ e. refl
  | false ↦ λ e. let later : j + 1 ≤ j + 0 = position_from-le name es (j + 1) (j + 0) e in absurd (omega arith)
] e
held-some_from name (x ∷ es) j (suc k) d e = elim (bears name x) as (λ b. cond b (Some j) (position_from (bears name) (j + 1) es) ≡ Some (j + suc k) → cond b (Some x.bytes) (held (files_of es) name) ≡ Some (get_or es k d).bytes) [
  | true ↦ λ e. let same : j ≡ j + suc k = cc in absurd (omega arith)
  | false ↦ λ e. let sum : j + suc k ≡ (j + 1) + k = omega arith in held-some_from name es (j + 1) k d (e ∙ ap (λ (n : ℕ). Some n) sum)
] e

-- std's `position` is `position_from` at 0
pub from_zero : (name : List ℕ) (es : List FileEntry) (r : Option ℕ) → r ≡ position (bears name) es → position_from (bears name) 0 es ≡ r
from_zero name es r e = sym (position_from-zero (bears name) es) ∙ sym e

pub held-none : (name : List ℕ) (es : List FileEntry) → None ≡ position (bears name) es → held (files_of es) name ≡ None
held-none name es e = held-none_from name es 0 (from_zero name es None e)

pub held-some : (name : List ℕ) (es : List FileEntry) (i : ℕ) (d : FileEntry) → Some i ≡ position (bears name) es → held (files_of es) name ≡ Some (get_or es i d).bytes
held-some name es i d e = held-some_from name es 0 i d (from_zero name es (Some i) e ∙ ap (λ (n : ℕ). Some n) (omega arith))

-- a file that is longer than the limit
pub held-longer : (name : List ℕ) (es : List FileEntry) (i limit : ℕ) (at : FileEntry) → Some i ≡ position (bears name) es → at ≡ get_or es i at → limit < length at.bytes → IsSomeAnd (held (files_of es) name) (λ bytes. limit < length bytes)
held-longer name es i limit at found is long = subst (λ (r : Option (List ℕ)). IsSomeAnd r (λ bytes. limit < length bytes)) (sym (held-some name es i at found ∙ ap (λ (e : FileEntry). Some e.bytes) (sym is))) long

-- a file that was copied
pub held-copied : (name : List ℕ) (es : List FileEntry) (i : ℕ) (at : FileEntry) (copy : List ℕ) → Some i ≡ position (bears name) es → at ≡ get_or es i at → copy ≡ at.bytes → held (files_of es) name ≡ Some copy
held-copied name es i at copy found is same = held-some name es i at found ∙ ap (λ (e : FileEntry). Some e.bytes) (sym is) ∙ ap (λ (b : List ℕ). Some b) (sym same)
