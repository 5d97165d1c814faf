-- What is written of lines is read in one way.
use Rattle.std.proofs.Common.{◌≡◌, ◌≢◌, ℕ, suc, ◌+◌, ◌^◌, ◌<◌, ◌≤◌, true, not, nat_eq, eq-eqb, List, [], ◌∷◌, ◌++◌, length, length-append, get_or, sym, refl, ap, ◌∙◌, subst, arith}
use Rattle.std.specs.Prelude.{codes, decimal}
use Rattle.std.specs.List.{All, flat_map, list_all}
use Rattle.std.proofs.lemmas.Bool.{and_parts}
use Rattle.std.proofs.lemmas.List.{append_cancel_left, append-nil}
use Rattle.std.proofs.lemmas.Grind.{flat_map-append}
use Rattle.std.proofs.lemmas.List.Concat.{flat_map-cons}
use Rattle.std.proofs.lemmas.List.Elements.{All-push}
use mathlib.Core.List.{append_assoc}
use Rattle.ifl_base.specs.declared.fate.Fate.{Fate}
use Rattle.ifl_base.specs.declared.fate.Fate.TheVariants as fate
use Rattle.ifl_base.specs.declared.fate.Away.{Away}
use Rattle.ifl_base.specs.declared.fate.Away.TheVariants as away
use Rattle.ifl_base.specs.declared.word.Flag.{Flag}
use Rattle.ifl_base.specs.declared.word.Flag.TheVariants as flag
use Rattle.ifl_base.specs.declared.word.RingWord.{RingWord}
use Rattle.ifl_base.specs.Word.{name_of}
use Rattle.ifl_check.specs.declared.line.Line.{Line}
use Rattle.ifl_check.specs.Parts.{Lacks}
use Rattle.ifl_check.specs.Text.{fate_text, away_text, word_text, number_then, line_text, count_text, order_text_of, HasNumbers, HasPlaces, IsReason, IsAwayLine, IsOrderText}
use Rattle.ifl_check.proofs.Fronts.{cut-same, lacks-append, lacks-decimal, number-same}

-- a test that a byte does not stand in a text
lacks : (b : ℕ) (xs : List ℕ) → list_all (λ x. not (nat_eq x b)) xs ≡ true → Lacks b xs
lacks b [] h = tt
lacks b (x ∷ xs) h = let (p, q) = and_parts (not (nat_eq x b)) (list_all (λ x. not (nat_eq x b)) xs) h in (λ e. absurd (let f = eq-eqb x b e in grind arith), lacks b xs q)

pub lacks-fate : (f : Fate) → Lacks 10 (fate_text f)
lacks-fate fate.Wire = lacks 10 (codes "wire") refl
lacks-fate fate.TooManySegments = lacks 10 (codes "too_many_segments") refl
lacks-fate fate.Reset = lacks 10 (codes "reset") refl
lacks-fate fate.Flush = lacks 10 (codes "flush") refl

lacks-flag : (f : Flag) → Lacks 10 (name_of f)
lacks-flag flag.Idle = lacks 10 (codes "idle") refl
lacks-flag flag.Busy = lacks 10 (codes "busy") refl
lacks-flag flag.Stalled = lacks 10 (codes "stalled") refl
lacks-flag flag.Abdicated = lacks 10 (codes "abdicated") refl

lacks-number_then : (n : ℕ) (text : List ℕ) → n < 2 ^ 64 → Lacks 10 text → Lacks 10 (number_then n text)
lacks-number_then n text h l = lacks-append 10 (decimal n) (32 ∷ text) (lacks-decimal 10 n (omega arith) h) ((λ e. absurd (omega arith)), l)

lacks-word : (w : RingWord) → HasPlaces w → Lacks 10 (word_text w)
lacks-word w h = let a = h.0 in let b = h.1 in let c = h.2 in
    lacks-number_then w.head _ (omega arith) (lacks-number_then w.tail _ (omega arith) (lacks-number_then w.cidx _ (omega arith) (lacks-flag w.flag)))

pub lacks-away : (a : Away) → IsReason a → Lacks 10 (away_text a)
lacks-away away.Runt h = lacks 10 (codes "runt") refl
lacks-away away.Oversize h = lacks 10 (codes "oversize") refl
lacks-away away.NoClusters h = lacks 10 (codes "no_clusters") refl
lacks-away (away.NoBuffers w) h = lacks-append 10 (codes "no_buffers ") (word_text w) (lacks 10 (codes "no_buffers ") refl) (lacks-word w h)

-- ---- a fate, a flag, a word and a reason by their texts

first_byte : (i : ℕ) (xs ys : List ℕ) → xs ≡ ys → get_or xs i 0 ≡ get_or ys i 0
first_byte i xs ys e = ap (λ (z : List ℕ). get_or z i 0) e

pub fate-same : (f g : Fate) → fate_text f ≡ fate_text g → f ≡ g
fate-same fate.Wire fate.Wire e = refl
fate-same fate.Wire fate.TooManySegments e = absurd (omega (arith, first_byte 0 _ _ e))
fate-same fate.Wire fate.Reset e = absurd (omega (arith, first_byte 0 _ _ e))
fate-same fate.Wire fate.Flush e = absurd (omega (arith, first_byte 0 _ _ e))
fate-same fate.TooManySegments fate.Wire e = absurd (omega (arith, first_byte 0 _ _ e))
fate-same fate.TooManySegments fate.TooManySegments e = refl
fate-same fate.TooManySegments fate.Reset e = absurd (omega (arith, first_byte 0 _ _ e))
fate-same fate.TooManySegments fate.Flush e = absurd (omega (arith, first_byte 0 _ _ e))
fate-same fate.Reset fate.Wire e = absurd (omega (arith, first_byte 0 _ _ e))
fate-same fate.Reset fate.TooManySegments e = absurd (omega (arith, first_byte 0 _ _ e))
fate-same fate.Reset fate.Reset e = refl
fate-same fate.Reset fate.Flush e = absurd (omega (arith, first_byte 0 _ _ e))
fate-same fate.Flush fate.Wire e = absurd (omega (arith, first_byte 0 _ _ e))
fate-same fate.Flush fate.TooManySegments e = absurd (omega (arith, first_byte 0 _ _ e))
fate-same fate.Flush fate.Reset e = absurd (omega (arith, first_byte 0 _ _ e))
fate-same fate.Flush fate.Flush e = refl

flag-same : (f g : Flag) → name_of f ≡ name_of g → f ≡ g
flag-same flag.Idle flag.Idle e = refl
flag-same flag.Idle flag.Busy e = absurd (omega (arith, first_byte 0 _ _ e))
flag-same flag.Idle flag.Stalled e = absurd (omega (arith, first_byte 0 _ _ e))
flag-same flag.Idle flag.Abdicated e = absurd (omega (arith, first_byte 0 _ _ e))
flag-same flag.Busy flag.Idle e = absurd (omega (arith, first_byte 0 _ _ e))
flag-same flag.Busy flag.Busy e = refl
flag-same flag.Busy flag.Stalled e = absurd (omega (arith, first_byte 0 _ _ e))
flag-same flag.Busy flag.Abdicated e = absurd (omega (arith, first_byte 0 _ _ e))
flag-same flag.Stalled flag.Idle e = absurd (omega (arith, first_byte 0 _ _ e))
flag-same flag.Stalled flag.Busy e = absurd (omega (arith, first_byte 0 _ _ e))
flag-same flag.Stalled flag.Stalled e = refl
flag-same flag.Stalled flag.Abdicated e = absurd (omega (arith, first_byte 0 _ _ e))
flag-same flag.Abdicated flag.Idle e = absurd (omega (arith, first_byte 0 _ _ e))
flag-same flag.Abdicated flag.Busy e = absurd (omega (arith, first_byte 0 _ _ e))
flag-same flag.Abdicated flag.Stalled e = absurd (omega (arith, first_byte 0 _ _ e))
flag-same flag.Abdicated flag.Abdicated e = refl

pub then-same : (m n : ℕ) (ys vs : List ℕ) → m < 2 ^ 64 → n < 2 ^ 64 → number_then m ys ≡ number_then n vs → (m ≡ n) × (ys ≡ vs)
then-same m n ys vs a b e = number-same 32 m n ys vs (omega arith) a b e

word-same : (w v : RingWord) → HasPlaces w → HasPlaces v → word_text w ≡ word_text v → w ≡ v
word-same w v h g e = let h0 = h.0 in let h1 = h.1 in let h2 = h.2 in let g0 = g.0 in let g1 = g.1 in let g2 = g.2 in
    let a = then-same w.head v.head _ _ (omega arith) (omega arith) e in
    let b = then-same w.tail v.tail _ _ (omega arith) (omega arith) a.1 in
    let c = then-same w.cidx v.cidx _ _ (omega arith) (omega arith) b.1 in
    let d = flag-same w.flag v.flag c.1 in
    (λ i. record { head = a.0 i; tail = b.0 i; cidx = c.0 i; flag = d i })

pub away-same : (a b : Away) → IsReason a → IsReason b → away_text a ≡ away_text b → a ≡ b
away-same away.Runt away.Runt h g e = refl
away-same away.Runt away.Oversize h g e = absurd (omega (arith, first_byte 0 _ _ e))
away-same away.Runt away.NoClusters h g e = absurd (omega (arith, first_byte 0 _ _ e))
away-same away.Runt (away.NoBuffers v) h g e = absurd (omega (arith, first_byte 0 _ _ e))
away-same away.Oversize away.Runt h g e = absurd (omega (arith, first_byte 0 _ _ e))
away-same away.Oversize away.Oversize h g e = refl
away-same away.Oversize away.NoClusters h g e = absurd (omega (arith, first_byte 0 _ _ e))
away-same away.Oversize (away.NoBuffers v) h g e = absurd (omega (arith, first_byte 0 _ _ e))
away-same away.NoClusters away.Runt h g e = absurd (omega (arith, first_byte 0 _ _ e))
away-same away.NoClusters away.Oversize h g e = absurd (omega (arith, first_byte 0 _ _ e))
away-same away.NoClusters away.NoClusters h g e = refl
away-same away.NoClusters (away.NoBuffers v) h g e = absurd (omega (arith, first_byte 3 _ _ e))
away-same (away.NoBuffers w) away.Runt h g e = absurd (omega (arith, first_byte 0 _ _ e))
away-same (away.NoBuffers w) away.Oversize h g e = absurd (omega (arith, first_byte 0 _ _ e))
away-same (away.NoBuffers w) away.NoClusters h g e = absurd (omega (arith, first_byte 3 _ _ e))
away-same (away.NoBuffers w) (away.NoBuffers v) h g e = ap away.NoBuffers (word-same w v h g (append_cancel_left (codes "no_buffers ") (word_text w) (word_text v) e))

-- ---- lines

-- what is written of a value, and what follows it, tell the value
abbrev pub ReadsOnce : {X : Type 0} → (X → List ℕ) → (X → Type 0) → Type 0
ReadsOnce {X} text_of Fits = (x y : X) (a b : List ℕ) → Fits x → Fits y → text_of x ++ a ≡ text_of y ++ b → (x ≡ y) × (a ≡ b)

pub line-parts : {T : Type 0} (text_of : T → List ℕ) (l : Line T) (rest : List ℕ) → line_text text_of l ++ rest ≡ number_then l.sender (number_then l.index (text_of l.what ++ (10 ∷ rest)))
line-parts text_of l rest = append_assoc (decimal l.sender) _ rest
    ∙ ap (λ (z : List ℕ). number_then l.sender z) (append_assoc (decimal l.index) _ rest ∙ ap (λ (z : List ℕ). number_then l.index z) (append_assoc (text_of l.what) (codes "\n") rest))

pub named-same : (s k t m : ℕ) (a b : List ℕ) → s < 2 ^ 32 → k < 2 ^ 32 → t < 2 ^ 32 → m < 2 ^ 32 → number_then s (number_then k a) ≡ number_then t (number_then m b) → (s ≡ t) × (k ≡ m) × (a ≡ b)
named-same s k t m a b p q u v e =
    let x = then-same s t _ _ (omega arith) (omega arith) e in let y = then-same k m _ _ (omega arith) (omega arith) x.1 in (x.0, y.0, y.1)

line-same : {T : Type 0} (text_of : T → List ℕ) (l m : Line T) (a b : List ℕ) → HasNumbers l → HasNumbers m → Lacks 10 (text_of l.what) → Lacks 10 (text_of m.what) → (text_of l.what ≡ text_of m.what → l.what ≡ m.what)
    → line_text text_of l ++ a ≡ line_text text_of m ++ b → (l ≡ m) × (a ≡ b)
line-same text_of l m a b h g p q one e =
    let x = named-same l.sender l.index m.sender m.index _ _ h.0 h.1 g.0 g.1 (sym (line-parts text_of l a) ∙ e ∙ line-parts text_of m b) in
    let y = cut-same 10 (text_of l.what) a (text_of m.what) b p q x.2 in
    let z = one y.0 in
    ((λ i. record { sender = x.0 i; index = x.1 i; what = z i }), y.1)

pub accepted-once : ReadsOnce (line_text fate_text) HasNumbers
accepted-once l m a b h g = line-same fate_text l m a b h g (lacks-fate l.what) (lacks-fate m.what) (fate-same l.what m.what)

pub away-once : ReadsOnce (line_text away_text) IsAwayLine
away-once l m a b h g = line-same away_text l m a b h.0 g.0 (lacks-away l.what h.1) (lacks-away m.what g.1) (away-same l.what m.what h.1 g.1)

-- as many values one after another
pub all-once : {X : Type 0} (text_of : X → List ℕ) (Fits : X → Type 0) → ReadsOnce text_of Fits → (xs ys : List X) (a b : List ℕ) → length xs ≡ length ys → All Fits xs → All Fits ys
    → flat_map text_of xs ++ a ≡ flat_map text_of ys ++ b → (xs ≡ ys) × (a ≡ b)
all-once text_of Fits once [] [] a b n h g e = (refl, e)
all-once text_of Fits once [] (y ∷ ys) a b n h g e = absurd (omega arith)
all-once text_of Fits once (x ∷ xs) [] a b n h g e = absurd (omega arith)
all-once {X} text_of Fits once (x ∷ xs) (y ∷ ys) a b n h g e =
    let p = ap (λ (z : List ℕ). z ++ a) (flat_map-cons text_of x xs) ∙ append_assoc (text_of x) (flat_map text_of xs) a in
    let q = ap (λ (z : List ℕ). z ++ b) (flat_map-cons text_of y ys) ∙ append_assoc (text_of y) (flat_map text_of ys) b in
    let u = once x y _ _ (h 0 x (omega arith)) (g 0 y (omega arith)) (sym p ∙ e ∙ q) in
    let v = all-once text_of Fits once xs ys a b (omega arith) (λ i d lt. h (suc i) d (omega arith)) (λ i d lt. g (suc i) d (omega arith)) u.1 in
    (λ i. u.0 i ∷ v.0 i, v.1)

-- a reader that stopped behind some of the lines stops there in every reading
pub stuck : {X : Type 0} (text_of : X → List ℕ) (Fits : X → Type 0) → ReadsOnce text_of Fits → (xs ys : List X) (a b : List ℕ) → length xs < length ys → All Fits xs → All Fits ys
    → ((y : X) (more : List ℕ) → Fits y → a ≢ text_of y ++ more) → flat_map text_of xs ++ a ≢ flat_map text_of ys ++ b
stuck text_of Fits once xs [] a b n h g never e = absurd (omega arith)
stuck text_of Fits once [] (y ∷ ys) a b n h g never e =
    never y (flat_map text_of ys ++ b) (g 0 y (omega arith)) (e ∙ ap (λ (z : List ℕ). z ++ b) (flat_map-cons text_of y ys) ∙ append_assoc (text_of y) (flat_map text_of ys) b)
stuck text_of Fits once (x ∷ xs) (y ∷ ys) a b n h g never e =
    let p = ap (λ (z : List ℕ). z ++ a) (flat_map-cons text_of x xs) ∙ append_assoc (text_of x) (flat_map text_of xs) a in
    let q = ap (λ (z : List ℕ). z ++ b) (flat_map-cons text_of y ys) ∙ append_assoc (text_of y) (flat_map text_of ys) b in
    let u = once x y _ _ (h 0 x (omega arith)) (g 0 y (omega arith)) (sym p ∙ e ∙ q) in
    stuck text_of Fits once xs ys a b (omega arith) (λ i d lt. h (suc i) d (omega arith)) (λ i d lt. g (suc i) d (omega arith)) never u.1

-- ---- a whole text

pub count-parts : (name : List ℕ) (n : ℕ) (rest : List ℕ) → count_text name n ++ rest ≡ name ++ (32 ∷ (decimal n ++ (10 ∷ rest)))
count-parts name n rest = append_assoc name _ rest ∙ ap (λ (z : List ℕ). name ++ (32 ∷ z)) (append_assoc (decimal n) (codes "\n") rest)

-- what stands behind the names of a line
pub line-behind : {T : Type 0} (text_of : T → List ℕ) (text : List ℕ) (s k : ℕ) (behind : List ℕ) (l : Line T) (rest : List ℕ) → (text ≡ number_then s (number_then k behind)) × (s < 2 ^ 32) × (k < 2 ^ 32) → HasNumbers l
    → text ≡ line_text text_of l ++ rest → behind ≡ text_of l.what ++ (10 ∷ rest)
line-behind text_of text s k behind l rest h g e = (named-same s k l.sender l.index _ _ h.1 h.2 g.0 g.1 (sym h.0 ∙ e ∙ line-parts text_of l rest)).2

-- a text in its parts
pub order-parts : (xs : List (Line Fate)) (us : List (Line Away))
    → order_text_of xs us ≡ codes "accepted " ++ (decimal (length xs) ++ (10 ∷ (flat_map (line_text fate_text) xs ++ (codes "away " ++ (decimal (length us) ++ (10 ∷ flat_map (line_text away_text) us))))))
order-parts xs us = count-parts (codes "accepted") (length xs) (flat_map (line_text fate_text) xs ++ (count_text (codes "away") (length us) ++ flat_map (line_text away_text) us))
    ∙ ap (λ (z : List ℕ). codes "accepted " ++ (decimal (length xs) ++ (10 ∷ (flat_map (line_text fate_text) xs ++ z)))) (count-parts (codes "away") (length us) (flat_map (line_text away_text) us))

-- what stands behind the first count
abbrev pub lines_and_away : List (Line Fate) → List (Line Away) → List ℕ
lines_and_away xs us = flat_map (line_text fate_text) xs ++ (codes "away " ++ (decimal (length us) ++ (10 ∷ flat_map (line_text away_text) us)))

length-lines : {T : Type 0} (text_of : T → List ℕ) (xs : List (Line T)) → length xs ≤ length (flat_map (line_text text_of) xs)
length-lines text_of [] = omega arith
length-lines text_of (x ∷ xs) =
    let r = length-lines text_of xs in let e = ap (λ (z : List ℕ). length z) (flat_map-cons (line_text text_of) x xs) in
    let f = length-append (line_text text_of x) (flat_map (line_text text_of) xs) in let g = length-append (decimal x.sender) (32 ∷ number_then x.index (text_of x.what ++ codes "\n")) in omega arith

-- there are no more lines than bytes
few-lines : (text : List ℕ) (xs : List (Line Fate)) (us : List (Line Away)) → IsOrderText text xs us → (length xs ≤ length text) × (length us ≤ length text)
few-lines text xs us h =
    let e = ap (λ (z : List ℕ). length z) (sym h.reads ∙ order-parts xs us) in
    let a = length-lines fate_text xs in let b = length-lines away_text us in
    let c = length-append (codes "accepted ") (decimal (length xs) ++ (10 ∷ lines_and_away xs us)) in
    let d = length-append (decimal (length xs)) (10 ∷ lines_and_away xs us) in
    let f = length-append (flat_map (line_text fate_text) xs) (codes "away " ++ (decimal (length us) ++ (10 ∷ flat_map (line_text away_text) us))) in
    let g = length-append (codes "away ") (decimal (length us) ++ (10 ∷ flat_map (line_text away_text) us)) in
    let k = length-append (decimal (length us)) (10 ∷ flat_map (line_text away_text) us) in
    (omega arith, omega arith)

count-same : (name : List ℕ) (m n : ℕ) (a b : List ℕ) → m < 2 ^ 64 → n < 2 ^ 64 → name ++ (decimal m ++ (10 ∷ a)) ≡ name ++ (decimal n ++ (10 ∷ b)) → (m ≡ n) × (a ≡ b)
count-same name m n a b p q e = number-same 10 m n a b (omega arith) p q (append_cancel_left name _ _ e)

-- what a reader has read agrees with every reading of the text: the first count, the accepted lines, the second count, the away lines
pub few-accepted : (text : List ℕ) (xs : List (Line Fate)) (us : List (Line Away)) → length text < 2 ^ 64 → IsOrderText text xs us → length xs < 2 ^ 64
few-accepted text xs us small h = let f = few-lines text xs us h in let g = f.0 in omega arith

pub few-away : (text : List ℕ) (xs : List (Line Fate)) (us : List (Line Away)) → length text < 2 ^ 64 → IsOrderText text xs us → length us < 2 ^ 64
few-away text xs us small h = let f = few-lines text xs us h in let g = f.1 in omega arith

pub after-count : (text rest : List ℕ) (count : ℕ) (xs : List (Line Fate)) (us : List (Line Away)) → length text < 2 ^ 64 → IsOrderText text xs us → count < 2 ^ 64
    → text ≡ codes "accepted " ++ (decimal count ++ (10 ∷ rest)) → (count ≡ length xs) × (rest ≡ lines_and_away xs us)
after-count text rest count xs us small h c e = count-same (codes "accepted ") count (length xs) rest (lines_and_away xs us) c (few-accepted text xs us small h) (sym e ∙ (sym h.reads ∙ order-parts xs us))

pub after-accepted : (text rest behind : List ℕ) (ls xs : List (Line Fate)) (us : List (Line Away)) → IsOrderText text xs us → rest ≡ lines_and_away xs us
    → rest ≡ flat_map (line_text fate_text) ls ++ behind → length ls ≡ length xs → All HasNumbers ls → (ls ≡ xs) × (behind ≡ codes "away " ++ (decimal (length us) ++ (10 ∷ flat_map (line_text away_text) us)))
after-accepted text rest behind ls xs us h r e n fit = all-once (line_text fate_text) HasNumbers accepted-once ls xs behind _ n fit h.accepted_fit (sym e ∙ r)

pub after-second : (text rest behind : List ℕ) (count : ℕ) (xs : List (Line Fate)) (us : List (Line Away)) → length text < 2 ^ 64 → IsOrderText text xs us → count < 2 ^ 64
    → rest ≡ codes "away " ++ (decimal (length us) ++ (10 ∷ flat_map (line_text away_text) us)) → rest ≡ codes "away " ++ (decimal count ++ (10 ∷ behind)) → (count ≡ length us) × (behind ≡ flat_map (line_text away_text) us)
after-second text rest behind count xs us small h c r e = count-same (codes "away ") count (length us) behind _ c (few-away text xs us small h) (sym e ∙ r)

pub after-away : (text rest behind : List ℕ) (ms us : List (Line Away)) (xs : List (Line Fate)) → IsOrderText text xs us → rest ≡ flat_map (line_text away_text) us
    → rest ≡ flat_map (line_text away_text) ms ++ behind → length ms ≡ length us → All IsAwayLine ms → (ms ≡ us) × (behind ≡ [])
after-away text rest behind ms us xs h r e n fit =
    all-once (line_text away_text) IsAwayLine away-once ms us behind [] n fit h.away_fit (sym e ∙ (r ∙ sym (append-nil (flat_map (line_text away_text) us))))

-- a text has one reading
pub order-once : (text : List ℕ) (xs ys : List (Line Fate)) (us vs : List (Line Away)) → length text < 2 ^ 64 → IsOrderText text xs us → IsOrderText text ys vs → (xs ≡ ys) × (us ≡ vs)
order-once text xs ys us vs small h g =
    let a = after-count text (lines_and_away xs us) (length xs) ys vs small g (few-accepted text xs us small h) (sym h.reads ∙ order-parts xs us) in
    let b = after-accepted text (lines_and_away xs us) _ xs ys vs g a.1 refl a.0 h.accepted_fit in
    let c = after-second text _ (flat_map (line_text away_text) us) (length us) ys vs small g (few-away text xs us small h) b.1 refl in
    let d = after-away text (flat_map (line_text away_text) us) [] us vs ys g c.1 (sym (append-nil (flat_map (line_text away_text) us))) c.0 h.away_fit in
    (b.0, d.0)

-- one more line is read
pub read-more : {X : Type 0} (text_of : X → List ℕ) (Fits : X → Type 0) (text rest behind : List ℕ) (xs new : List X) (x : X) (n : ℕ) → text ≡ flat_map text_of xs ++ rest → rest ≡ text_of x ++ behind → new ≡ xs ++ (x ∷ [])
    → length xs ≡ n → All Fits xs → Fits x → (text ≡ flat_map text_of new ++ behind) × (length new ≡ n + 1) × All Fits new
read-more {X} text_of Fits text rest behind xs new x n a b grown sized all fit =
    let more : flat_map text_of new ≡ flat_map text_of xs ++ text_of x = ap (flat_map text_of) grown ∙ (flat_map-append text_of xs (x ∷ []) ∙ ap (λ (z : List ℕ). flat_map text_of xs ++ z) (flat_map-cons text_of x [] ∙ append-nil (text_of x))) in (
      a ∙ (ap (λ (z : List ℕ). flat_map text_of xs ++ z) b ∙ (sym (append_assoc (flat_map text_of xs) (text_of x) behind) ∙ ap (λ (z : List ℕ). z ++ behind) (sym more))),
      ap (λ (z : List X). length z) grown ∙ (let l = length-append xs (x ∷ []) in omega arith),
      subst (All Fits) (sym grown) (All-push Fits xs x all fit),
    )
