-- Counts of the lines that name a record.
use Rattle.std.proofs.Common.{◌≡◌, ◌≢◌, ℕ, zero, suc, ◌+◌, ◌<◌, ◌≤◌, ◌⊎◌, ⊎_elim, inl, inr, Bool, true, false, nat_eq, eq-eqb, eqb-true, List, [], ◌∷◌, length, get_or, set, take, cond, sym, refl, ap, ◌∙◌, subst, arith}
use Rattle.std.specs.List.{AllWithin, All, Any, count_by, list_all}
use Rattle.std.proofs.lemmas.Bool.{cases_lt, and_parts}
use Rattle.std.proofs.lemmas.List.{length-map, length-set, get_or_default, get_or-set_same, get_or-set_other}
use Rattle.std.proofs.lemmas.List.Sums.{count_by_more_no, count_by_more_yes, sum_by-cons}
use mathlib.Core.Logic.{dite}
use native.Mathlib.Decide.{ℕ_discrete, dec_le}
use Rattle.ifl_base.specs.declared.fate.Fate.{Fate}
use Rattle.ifl_base.specs.declared.fate.Away.{Away}
use Rattle.ifl_pcap.specs.declared.capture.Capture.{Capture}
use Rattle.ifl_pcap.specs.declared.frame.Frame.{Frame}
use Rattle.ifl_check.specs.declared.line.Line.{Line}
use Rattle.ifl_check.specs.Files.{each_frames, IsRecordAt}
use Rattle.ifl_check.specs.EachOnce.{is_named, lines_naming, EachOnce}
use Rattle.ifl_check.specs.Places.{place, Counts}
use Rattle.ifl_check.proofs.Rows.{record-file, place-same, place-within, place-onto, all_records}

pub named-itself : {T : Type 0} (l : Line T) → is_named l.sender l.index l ≡ true
named-itself l = rw (eq-eqb l.sender l.sender refl, eq-eqb l.index l.index refl) refl

pub named-is : {T : Type 0} (s k : ℕ) (l : Line T) → is_named s k l ≡ true → (l.sender ≡ s) × (l.index ≡ k)
named-is s k l h = let (a, b) = and_parts (nat_eq l.sender s) (nat_eq l.index k) h in (eqb-true l.sender s a, eqb-true l.index k b)

bool_cases : (b : Bool) → (b ≡ true) ⊎ (b ≡ false)
bool_cases true = inl refl
bool_cases false = inr refl

pub count_by-pass : {X : Type 0} (p : X → Bool) (x : X) (xs : List X) → p x ≡ true → count_by p (x ∷ xs) ≡ suc (count_by p xs)
count_by-pass {X} p x xs h = let e : count_by p (x ∷ xs) ≡ 1 + count_by p xs = sum_by-cons (λ (z : X). cond (p z) 1 0) x xs ∙ ap (λ (b : Bool). cond b 1 0 + count_by p xs) h in omega arith

pub count_by-fail : {X : Type 0} (p : X → Bool) (x : X) (xs : List X) → p x ≡ false → count_by p (x ∷ xs) ≡ count_by p xs
count_by-fail {X} p x xs h = let e : count_by p (x ∷ xs) ≡ 0 + count_by p xs = sum_by-cons (λ (z : X). cond (p z) 1 0) x xs ∙ ap (λ (b : Bool). cond b 1 0 + count_by p xs) h in omega arith

-- a front has fewer, where one that passes behind it counts
pub count_by-passes : {X : Type 0} (p : X → Bool) (xs : List X) (i : ℕ) (d : X) → i < length xs → p (get_or xs i d) ≡ true → count_by p (take i xs) < count_by p xs
count_by-passes p [] i d l h = absurd (omega arith)
count_by-passes p (x ∷ xs) zero d l h = let e = count_by-pass p x xs h in omega arith
count_by-passes p (x ∷ xs) (suc i) d l h = let r = count_by-passes p xs i d (omega arith) h in ⊎_elim
    (λ t. let e = count_by-pass p x xs t in let f = count_by-pass p x (take i xs) t in omega arith)
    (λ t. let e = count_by-fail p x xs t in let f = count_by-fail p x (take i xs) t in omega arith)
    (bool_cases (p x))

-- a line names the record that it names
pub count-named : {T : Type 0} (lines : List (Line T)) (i : ℕ) (l : Line T) → i < length lines → l ≡ get_or lines i l → 0 < count_by (is_named l.sender l.index) lines
count-named lines i l h is = let r = count_by-passes (is_named l.sender l.index) lines i l h (ap (is_named l.sender l.index) (sym is) ∙ named-itself l) in omega arith

-- no line names what is no record
pub count-others : {T : Type 0} (files : List (List Frame)) (s k : ℕ) (lines : List (Line T)) → All (λ l. IsRecordAt files l.sender l.index) lines → (IsRecordAt files s k → ⊥) → count_by (is_named s k) lines ≡ 0
count-others files s k [] all never = refl
count-others files s k (l ∷ lines) all never = ⊎_elim
    (λ h. let t = named-is s k l h in absurd (never (subst (λ (z : ℕ). IsRecordAt files z k) t.0 (subst (λ (z : ℕ). IsRecordAt files l.sender z) t.1 (all 0 l (omega arith))))))
    (λ h. count_by-fail (is_named s k) l lines h ∙ count-others files s k lines (λ i d lt. all (suc i) d (omega arith)) never)
    (bool_cases (is_named s k l))

-- one more mark
pub counts-more : {T : Type 0} (files : List (List Frame)) (old marks : List ℕ) (lines : List (Line T)) (n : ℕ) (l : Line T) → n < length lines → l ≡ get_or lines n l
    → length marks ≡ all_records files → IsRecordAt files l.sender l.index → get_or marks (place files l.sender l.index) 0 ≡ 0
    → Counts files old marks (take n lines) → Counts files old (set marks (place files l.sender l.index) 1) (take (n + 1) lines)
counts-more files old marks lines n l lt is sized rec free h s k r = ⊎_elim
    (λ t. let e = named-is s k l t in
    let here : place files s k ≡ place files l.sender l.index = (λ i. place files (sym e.0 i) (sym e.1 i)) in
    let fits = place-within files l.sender l.index rec in
    let w : get_or (set marks (place files l.sender l.index) 1) (place files s k) 0 ≡ 1 = ap (λ (z : ℕ). get_or (set marks (place files l.sender l.index) 1) z 0) here ∙ get_or-set_same marks (place files l.sender l.index) 1 0 (omega arith) in
    let c = count_by_more_yes (is_named s k) lines n l lt (ap (is_named s k) (sym is) ∙ t) in
    let before = h s k r in let f : get_or marks (place files s k) 0 ≡ 0 = ap (λ (z : ℕ). get_or marks z 0) here ∙ free in omega arith)
    (λ t. let ne : place files s k ≢ place files l.sender l.index = λ e. (let u = place-same files s k l.sender l.index r rec e in
    let g : true ≡ false = sym (named-itself l) ∙ ((λ i. is_named (sym u.0 i) (sym u.1 i) l) ∙ t) in absurd cc) in
    let w = get_or-set_other marks (place files l.sender l.index) (place files s k) 1 0 ne in
    let c = count_by_more_no (is_named s k) lines n l lt (ap (is_named s k) (sym is) ∙ t) in
    let before = h s k r in omega arith)
    (bool_cases (is_named s k l))

-- why marking stops
abbrev pub Stops : {T : Type 0} → List (List Frame) → List ℕ → List (Line T) → Line T → Type 0
Stops files old lines l = (IsRecordAt files l.sender l.index → ⊥) ⊎ (1 < get_or old (place files l.sender l.index) 0 + count_by (is_named l.sender l.index) lines)

pub stops-named : {T : Type 0} (files : List (List Frame)) (old marks : List ℕ) (lines : List (Line T)) (n : ℕ) (l : Line T) → n < length lines → l ≡ get_or lines n l
    → IsRecordAt files l.sender l.index → (get_or marks (place files l.sender l.index) 0 ≢ 0) → Counts files old marks (take n lines) → Stops files old lines l
stops-named files old marks lines n l lt is rec taken h = inr (
    let c = count_by-passes (is_named l.sender l.index) lines n l lt (ap (is_named l.sender l.index) (sym is) ∙ named-itself l) in
    let before = h l.sender l.index rec in let some : 0 < get_or marks (place files l.sender l.index) 0 = omega (arith, taken) in omega arith)

-- ---- all lines

-- two counts of one record are one too many, and so is one of what is no record
too_many : (files : List (List Frame)) (accepted : List (Line Fate)) (turned : List (Line Away)) (s k : ℕ) → EachOnce files accepted turned → lines_naming s k accepted turned ≤ 1
too_many files accepted turned s k h = dite (dec_le (suc k) (length (get_or files s [])))
    (λ r. let e = h.once s k r in omega arith)
    (λ never. let e = h.others s k never in omega arith)

pub stops-accepted : (files : List (List Frame)) (old : List ℕ) (accepted : List (Line Fate)) (turned : List (Line Away)) → ((s k : ℕ) → get_or old (place files s k) 0 ≡ 0)
    → Any (Stops files old accepted) accepted → EachOnce files accepted turned → ⊥
stops-accepted files old accepted turned zeros (i, l, lt, is, why) h = ⊎_elim
    (λ never. let c = count-named accepted i l lt (sym is) in let e = h.others l.sender l.index never in absurd (omega arith))
    (λ two. let z = zeros l.sender l.index in let e = too_many files accepted turned l.sender l.index h in absurd (omega arith))
    why

pub stops-away : (files : List (List Frame)) (zero_marks old : List ℕ) (accepted : List (Line Fate)) (turned : List (Line Away)) → ((s k : ℕ) → get_or zero_marks (place files s k) 0 ≡ 0)
    → Counts files zero_marks old accepted → Any (Stops files old turned) turned → EachOnce files accepted turned → ⊥
stops-away files zero_marks old accepted turned zeros counts (i, l, lt, is, why) h = ⊎_elim
    (λ never. let c = count-named turned i l lt (sym is) in let e = h.others l.sender l.index never in absurd (omega arith))
    (λ two. dite (dec_le (suc l.index) (length (get_or files l.sender [])))
    (λ r. let z = zeros l.sender l.index in let c = counts l.sender l.index r in let e = h.once l.sender l.index r in absurd (omega arith))
    (λ never. let c = count-named turned i l lt (sym is) in let e = h.others l.sender l.index never in absurd (omega arith)))
    why

all-ones : (marks : List ℕ) → list_all (λ m. nat_eq m 1) marks ≡ true → (p : ℕ) → p < length marks → get_or marks p 0 ≡ 1
all-ones [] h p l = absurd (omega arith)
all-ones (m ∷ marks) h zero l = let (a, b) = and_parts (nat_eq m 1) (list_all (λ z. nat_eq z 1) marks) h in eqb-true m 1 a
all-ones (m ∷ marks) h (suc p) l = let (a, b) = and_parts (nat_eq m 1) (list_all (λ z. nat_eq z 1) marks) h in all-ones marks b p (omega arith)

not-ones : (marks : List ℕ) → list_all (λ m. nat_eq m 1) marks ≡ false → (p : ℕ) × (p < length marks) × (get_or marks p 0 ≢ 1)
not-ones [] h = absurd cc
not-ones (m ∷ marks) h = dite (ℕ_discrete m 1)
    (λ e. let rest : list_all (λ z. nat_eq z 1) marks ≡ false = rw (eq-eqb m 1 e) at h in let (p, l, ne) = not-ones marks rest in (suc p, omega arith, ne))
    (λ ne. (0, omega arith, ne))

pub once-ones : (files : List (List Frame)) (zero_marks one_marks marks : List ℕ) (accepted : List (Line Fate)) (turned : List (Line Away)) → ((s k : ℕ) → get_or zero_marks (place files s k) 0 ≡ 0)
    → Counts files zero_marks one_marks accepted → Counts files one_marks marks turned
    → All (λ l. IsRecordAt files l.sender l.index) accepted → All (λ l. IsRecordAt files l.sender l.index) turned → length marks ≡ all_records files
    → list_all (λ m. nat_eq m 1) marks ≡ true → EachOnce files accepted turned
once-ones files zero_marks one_marks marks accepted turned zeros a b p q sized ones = record {
  once = λ s k r. let z = zeros s k in let x = a s k r in let y = b s k r in let w = place-within files s k r in let o = all-ones marks ones (place files s k) (omega arith) in omega arith;
  others = λ s k never. let x = count-others files s k accepted p never in let y = count-others files s k turned q never in omega arith;
}

pub once-not_ones : (files : List (List Frame)) (zero_marks one_marks marks : List ℕ) (accepted : List (Line Fate)) (turned : List (Line Away)) → ((s k : ℕ) → get_or zero_marks (place files s k) 0 ≡ 0)
    → Counts files zero_marks one_marks accepted → Counts files one_marks marks turned → length marks ≡ all_records files
    → list_all (λ m. nat_eq m 1) marks ≡ false → EachOnce files accepted turned → ⊥
once-not_ones files zero_marks one_marks marks accepted turned zeros a b sized ones h =
    let (p, l, ne) = not-ones marks ones in let (s, k, r, is) = place-onto files p (omega arith) in
    let z = zeros s k in let x = a s k r in let y = b s k r in let o = h.once s k r in
    ne (ap (λ (n : ℕ). get_or marks n 0) (sym is) ∙ (omega arith))

-- a step of the marking
pub mark-more : {T : Type 0} (files : List (List Frame)) (old marks : List ℕ) (lines : List (Line T)) (n : ℕ) (l : Line T) (p : ℕ) → n < length lines → l ≡ get_or lines n l
    → length marks ≡ all_records files → length marks ≡ length old → IsRecordAt files l.sender l.index → p ≡ place files l.sender l.index → get_or marks p 0 ≡ 0
    → Counts files old marks (take n lines) → AllWithin (λ x. IsRecordAt files x.sender x.index) lines 0 n
    → (length (set marks p 1) ≡ length old) × Counts files old (set marks p 1) (take (n + 1) lines) × AllWithin (λ x. IsRecordAt files x.sender x.index) lines 0 (n + 1)
mark-more {T} files old marks lines n l p lt is sized same rec at free counts within = (
  length-set marks p 1 ∙ same,
  subst (λ (z : ℕ). Counts files old (set marks z 1) (take (n + 1) lines)) (sym at)
      (counts-more files old marks lines n l lt is sized rec (ap (λ (z : ℕ). get_or marks z 0) (sym at) ∙ free) counts),
  (λ k d low high. ⊎_elim
      (λ below. within k d low below)
      (λ above. let e : k ≡ n = omega arith in
      let here : get_or lines k d ≡ l = ap (λ (z : ℕ). get_or lines z d) e ∙ (get_or_default lines n d l lt ∙ sym is) in
      subst (λ (z : Line T). IsRecordAt files z.sender z.index) (sym here) rec)
      (cases_lt k n)),
)

-- lines that name records name files
pub senders-within : {T : Type 0} (cs : List Capture) (lines : List (Line T)) → All (λ l. IsRecordAt (each_frames cs) l.sender l.index) lines → All (λ l. l.sender < length cs) lines
senders-within cs lines h i d lt = let r = record-file (each_frames cs) (get_or lines i d).sender (get_or lines i d).index (h i d lt) in let n = length-map cs (λ (c : Capture). c.frames) in omega arith
