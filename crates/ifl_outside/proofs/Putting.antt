-- Bytes put under a name: in the entries, and as a look-up sees them.
use Rattle.std.proofs.Common.{◌≡◌, ◌≢◌, ℕ, zero, suc, ◌+◌, ◌≤◌, true, false, cond, List, [], ◌∷◌, ◌++◌, get_or, Option, Some, None, refl, sym, ap, ◌∙◌, arith}
use Rattle.std.proofs.Math.ListN.{set}
use Rattle.std.specs.Str.{bytes_eq}
use Rattle.std.specs.String.{string_bytes}
use Rattle.std.specs.List.{position, position_from}
use Rattle.ifl_outside.specs.declared.entry.FileEntry.{FileEntry}
use Rattle.ifl_outside.specs.Files.{Files, held, put, SameBut}
use Rattle.ifl_outside.specs.Entries.{named, files_of}
use Rattle.ifl_outside.proofs.Held.{bears, bytes_eq-is, bytes_eq-refl, position_from-le, from_zero}

pub held-put : (name bytes : List ℕ) (files : Files) → held (put name bytes files) name ≡ Some bytes
held-put name bytes [] = rw (bytes_eq-refl name) refl
held-put name bytes (f ∷ fs) = elim (bytes_eq f.0 name) as (λ b. bytes_eq f.0 name ≡ b → held (cond b ((f.0, bytes) ∷ fs) (f ∷ put name bytes fs)) name ≡ Some bytes) [
  | true ↦ λ is. rw is refl
  | false ↦ λ is. rw is (held-put name bytes fs)
] refl

-- two names that are not equal as lists are not equal as bytes
bytes_eq-apart : (xs q name : List ℕ) → xs ≡ name → q ≢ name → bytes_eq xs q ≡ false
bytes_eq-apart xs q name is apart = elim (bytes_eq xs q) as (λ b. bytes_eq xs q ≡ b → b ≡ false) [
  | true ↦ λ e. absurd (apart (sym (bytes_eq-is xs q e) ∙ is))
  | false ↦ λ e. refl
] refl

pub SameBut-put : (name bytes : List ℕ) (files : Files) → SameBut name files (put name bytes files)
SameBut-put name bytes [] q apart = rw (bytes_eq-apart name q name refl apart) refl
SameBut-put name bytes (f ∷ fs) q apart = elim (bytes_eq f.0 name) as (λ b. bytes_eq f.0 name ≡ b → held (cond b ((f.0, bytes) ∷ fs) (f ∷ put name bytes fs)) q ≡ held (f ∷ fs) q) [
  | true ↦ λ is. rw (bytes_eq-apart f.0 q name (bytes_eq-is f.0 name is) apart) refl
  | false ↦ λ is. ap (λ (r : Option (List ℕ)). cond (bytes_eq f.0 q) (Some f.1) r) (SameBut-put name bytes fs q apart)
] refl

files_of-set_from : (name : List ℕ) (es : List FileEntry) (j k : ℕ) (e d : FileEntry) → position_from (bears name) j es ≡ Some (j + k) → string_bytes e.name ≡ string_bytes (get_or es k d).name → files_of (set es k e) ≡ put name e.bytes (files_of es)
files_of-set_from name [] j k e d at same = absurd cc
files_of-set_from name (x ∷ es) j zero e d at same = elim (bears name x) as (λ b. cond b (Some j) (position_from (bears name) (j + 1) es) ≡ Some (j + 0) → (named e ∷ files_of es) ≡ cond b ((string_bytes x.name, e.bytes) ∷ files_of es) (named x ∷ put name e.bytes (files_of es))) [
  | true ↦ λ a. ap (λ (n : List ℕ). (n, e.bytes) ∷ files_of es) same
  | false ↦ λ a. let later : j + 1 ≤ j + 0 = position_from-le name es (j + 1) (j + 0) a in absurd (omega arith)
] at
files_of-set_from name (x ∷ es) j (suc k) e d at same = elim (bears name x) as (λ b. cond b (Some j) (position_from (bears name) (j + 1) es) ≡ Some (j + suc k) → (named x ∷ files_of (set es k e)) ≡ cond b ((string_bytes x.name, e.bytes) ∷ files_of es) (named x ∷ put name e.bytes (files_of es))) [
  | true ↦ λ a. let equal : j ≡ j + suc k = cc in absurd (omega arith)
  | false ↦ λ a.
      let sum : j + suc k ≡ (j + 1) + k = omega arith in
      ap (λ (fs : Files). named x ∷ fs) (files_of-set_from name es (j + 1) k e d (a ∙ ap (λ (n : ℕ). Some n) sum) same)
] at

files_of-append_from : (name : List ℕ) (es : List FileEntry) (j : ℕ) (e : FileEntry) → position_from (bears name) j es ≡ None → string_bytes e.name ≡ name → files_of (es ++ e ∷ []) ≡ put name e.bytes (files_of es)
files_of-append_from name [] j e at is = ap (λ (n : List ℕ). (n, e.bytes) ∷ []) is
files_of-append_from name (x ∷ es) j e at is = elim (bears name x) as (λ b. cond b (Some j) (position_from (bears name) (j + 1) es) ≡ None → (named x ∷ files_of (es ++ e ∷ [])) ≡ cond b ((string_bytes x.name, e.bytes) ∷ files_of es) (named x ∷ put name e.bytes (files_of es))) [
  | true ↦ λ a. absurd cc
  | false ↦ λ a. ap (λ (fs : Files). named x ∷ fs) (files_of-append_from name es (j + 1) e a is)
] at

-- the entry at the place that was found is replaced by one of the same name
pub files_of-set : (name : List ℕ) (es : List FileEntry) (i : ℕ) (e d : FileEntry) → Some i ≡ position (bears name) es → string_bytes e.name ≡ string_bytes (get_or es i d).name → files_of (set es i e) ≡ put name e.bytes (files_of es)
files_of-set name es i e d at same = files_of-set_from name es 0 i e d (from_zero name es (Some i) at ∙ ap (λ (n : ℕ). Some n) (omega arith)) same

-- no entry had the name, and one was appended
pub files_of-append : (name : List ℕ) (es : List FileEntry) (e : FileEntry) → None ≡ position (bears name) es → string_bytes e.name ≡ name → files_of (es ++ e ∷ []) ≡ put name e.bytes (files_of es)
files_of-append name es e at is = files_of-append_from name es 0 e (from_zero name es None at) is
