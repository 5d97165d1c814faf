-- Lines are taken apart in one way only.
use Rattle.std.proofs.Common.{◌≡◌, ◌≢◌, ℕ, zero, suc, ◌^◌, ◌<◌, ◌≤◌, Bool, true, false, not, eq-eqb, nat_eq, nat_lt, List, [], ◌∷◌, ◌++◌, get_or, sym, refl, ap, ◌∙◌, subst, arith, ◌⊎◌, ⊎_elim, inl, inr}
use Rattle.std.specs.Prelude.{Option, Some, None, decimal, codes, IfSome, IfNone}
use Rattle.std.specs.List.{find, list_all, AllByRecursion}
use Rattle.std.proofs.lemmas.List.{append-nil}
use Rattle.std.specs.Str.{bytes_eq, IsAscii, IsUtf8}
use Rattle.std.specs.Str.Parse.{AllDigits}
use Rattle.std.proofs.lemmas.Bool.{and_parts, le-leb}
use Rattle.std.proofs.lemmas.Bool.Decides.{nat_tests}
use Rattle.std.proofs.lemmas.Fmt.{decimal_is_IsNumeral, decimal_injective}
use Rattle.std.proofs.lemmas.Slice.Eq.{bytes_eq-Decides}
use Rattle.std.proofs.lemmas.Str.{IsUtf8-from_ascii}
use Rattle.std.proofs.lemmas.Str.Parse.{digit_from_value}
use Rattle.ifl_ringcore.specs.declared.event.Event.{Event}
use Rattle.ifl_ringcore.specs.declared.event.Event.TheVariants.{Look, Refuse, Reserve, Behind, Elected, Abdicating, Advance, LeaveIdle, LeaveAbdicated, Stall, TakeOver}
use Rattle.ifl_ringcore.specs.Events.{seat_of}
use Rattle.ifl_ringcore.specs.Lines.{Lacks, spaced, spaced_if, Fits32}
use Rattle.ifl_ringcore.specs.Schedule.{name_of, number_of, most_of, IsEvent, event_line, IsRing, ring_line}
use Rattle.ifl_ringcore.specs.Reading.{events_with, event_named, is_in_range}

-- ---- the first of some bytes

pub lacks-behind : (b : ℕ) (xs ys : List ℕ) → Lacks b (xs ++ (b ∷ ys)) → ⊥
lacks-behind b [] ys l = l.0 refl
lacks-behind b (x ∷ xs) ys l = lacks-behind b xs ys l.1

head : (a b : ℕ) (xs ys : List ℕ) → a ∷ xs ≡ b ∷ ys → a ≡ b
head a b xs ys e = ap (λ (z : List ℕ). get_or z 0 0) e

tail : (a b : ℕ) (xs ys : List ℕ) → a ∷ xs ≡ b ∷ ys → xs ≡ ys
tail a b xs ys e = cc

pub cut-same : (b : ℕ) (xs ys us vs : List ℕ) → Lacks b xs → Lacks b us → xs ++ (b ∷ ys) ≡ us ++ (b ∷ vs) → (xs ≡ us) × (ys ≡ vs)
cut-same b [] ys [] vs l m e = (refl, tail b b ys vs e)
cut-same b [] ys (u ∷ us) vs l m e = absurd (m.0 (sym (head b u ys (us ++ (b ∷ vs)) e)))
cut-same b (x ∷ xs) ys [] vs l m e = absurd (l.0 (head x b (xs ++ (b ∷ ys)) vs e))
cut-same b (x ∷ xs) ys (u ∷ us) vs l m e = let h = head x u (xs ++ (b ∷ ys)) (us ++ (b ∷ vs)) e in
    let t = cut-same b xs ys us vs l.1 m.1 (tail x u (xs ++ (b ∷ ys)) (us ++ (b ∷ vs)) e) in (λ i. h i ∷ t.0 i, t.1)

-- a test for it
lacks : (b : ℕ) (xs : List ℕ) → list_all (λ x. not (nat_eq x b)) xs ≡ true → Lacks b xs
lacks b [] h = tt
lacks b (x ∷ xs) h = let (p, q) = and_parts (not (nat_eq x b)) (list_all (λ x. not (nat_eq x b)) xs) h in (λ e. absurd (let f = eq-eqb x b e in grind arith), lacks b xs q)

lacks-digits : (b : ℕ) (ds : List ℕ) → b < 48 → AllDigits 10 ds → Lacks b ds
lacks-digits b [] l h = tt
lacks-digits b (d ∷ ds) l h = let r = digit_from_value d h.0 in (λ e. absurd (let s = r.0 in omega arith), lacks-digits b ds l h.1)

pub lacks-decimal : (b n : ℕ) → b < 48 → n < 2 ^ 32 → Lacks b (decimal n)
lacks-decimal b n l h = lacks-digits b (decimal n) l (decimal_is_IsNumeral n (omega arith)).0.1

pub lacks-append : (b : ℕ) (xs ys : List ℕ) → Lacks b xs → Lacks b ys → Lacks b (xs ++ ys)
lacks-append b [] ys l m = m
lacks-append b (x ∷ xs) ys l m = (l.0, lacks-append b xs ys l.1 m)

pub lacks-name : (e : Event) → Lacks 32 (name_of e) × Lacks 10 (name_of e)
lacks-name (Look k) = (lacks 32 (codes "look") refl, lacks 10 (codes "look") refl)
lacks-name (Refuse k n) = (lacks 32 (codes "refuse") refl, lacks 10 (codes "refuse") refl)
lacks-name (Reserve k n) = (lacks 32 (codes "reserve") refl, lacks 10 (codes "reserve") refl)
lacks-name (Behind k) = (lacks 32 (codes "behind") refl, lacks 10 (codes "behind") refl)
lacks-name (Elected k b) = (lacks 32 (codes "elected") refl, lacks 10 (codes "elected") refl)
lacks-name (Abdicating k) = (lacks 32 (codes "abdicating") refl, lacks 10 (codes "abdicating") refl)
lacks-name (Advance k n) = (lacks 32 (codes "advance") refl, lacks 10 (codes "advance") refl)
lacks-name (LeaveIdle k n) = (lacks 32 (codes "idle") refl, lacks 10 (codes "idle") refl)
lacks-name (LeaveAbdicated k n) = (lacks 32 (codes "abdicate") refl, lacks 10 (codes "abdicate") refl)
lacks-name (Stall k n) = (lacks 32 (codes "stall") refl, lacks 10 (codes "stall") refl)
lacks-name (TakeOver k b) = (lacks 32 (codes "takeover") refl, lacks 10 (codes "takeover") refl)

-- ---- two numbers

pub numbers-same : (s t : ℕ) (m n : Option ℕ) → s < 2 ^ 32 → t < 2 ^ 32 → Fits32 m → Fits32 n → decimal s ++ spaced_if m ≡ decimal t ++ spaced_if n → (s ≡ t) × (m ≡ n)
numbers-same s t None None a b c d e = (decimal_injective s t (omega arith) (omega arith) (sym (append-nil (decimal s)) ∙ e ∙ append-nil (decimal t)), refl)
numbers-same s t None (Some n) a b c d e = absurd (lacks-behind 32 (decimal t) (decimal n) (subst (Lacks 32) (sym (append-nil (decimal s)) ∙ e) (lacks-decimal 32 s (omega arith) a)))
numbers-same s t (Some m) None a b c d e = absurd (lacks-behind 32 (decimal s) (decimal m) (subst (Lacks 32) (sym (e ∙ append-nil (decimal t))) (lacks-decimal 32 t (omega arith) b)))
numbers-same s t (Some m) (Some n) a b c d e = let u = cut-same 32 (decimal s) (decimal m) (decimal t) (decimal n) (lacks-decimal 32 s (omega arith) a) (lacks-decimal 32 t (omega arith) b) e in
    (decimal_injective s t (omega arith) (omega arith) u.0, ap (λ (z : ℕ). Some z) (decimal_injective m n (omega arith) (omega arith) u.1))

-- ---- an event by its name

bool_cases : (b : Bool) → (b ≡ true) ⊎ (b ≡ false)
bool_cases true = inl refl
bool_cases false = inr refl

bytes_eq-same : (xs ys : List ℕ) → bytes_eq xs ys ≡ true → xs ≡ ys
bytes_eq-same xs ys h = (bytes_eq-Decides xs ys).0 h

-- what holds of each holds of the one that is found, and it passes
found : {A : Type 0} (P : A → Type 0) (p : A → Bool) (xs : List A) (x : A) → AllByRecursion P xs → find p xs ≡ Some x → P x × (p x ≡ true)
found P p [] x a e = absurd cc
found {A} P p (y ∷ ys) x a e = ⊎_elim
    (λ t. let f : Some y ≡ Some x = rw t at e in let same : y ≡ x = cc in (subst P same a.0, ap p (sym same) ∙ t))
    (λ f. found P p ys x a.1 (rw f at e))
    (bool_cases (p y))

pub event_named-is : (name : List ℕ) (seat : ℕ) (n : Option ℕ) (e : Event) → event_named name seat n ≡ Some e → (name ≡ name_of e) × (seat_of e ≡ seat) × (number_of e ≡ n)
event_named-is name seat None e h = let t = found (λ (z : Event). (seat_of z ≡ seat) × (number_of z ≡ None)) (λ z. bytes_eq name (name_of z)) (events_with seat None) e
    ((refl, refl), ((refl, refl), ((refl, refl), tt))) h in (bytes_eq-same name (name_of e) t.1, t.0.0, t.0.1)
event_named-is name seat (Some n) e h = let t = found (λ (z : Event). (seat_of z ≡ seat) × (number_of z ≡ Some n)) (λ z. bytes_eq name (name_of z)) (events_with seat (Some n)) e
    ((refl, refl), ((refl, refl), ((refl, refl), ((refl, refl), ((refl, refl), ((refl, refl), ((refl, refl), ((refl, refl), tt)))))))) h in (bytes_eq-same name (name_of e) t.1, t.0.0, t.0.1)

pub event_named-of : (e : Event) → event_named (name_of e) (seat_of e) (number_of e) ≡ Some e
event_named-of (Look k) = refl
event_named-of (Refuse k n) = refl
event_named-of (Reserve k n) = refl
event_named-of (Behind k) = refl
event_named-of (Elected k b) = refl
event_named-of (Abdicating k) = refl
event_named-of (Advance k n) = refl
event_named-of (LeaveIdle k n) = refl
event_named-of (LeaveAbdicated k n) = refl
event_named-of (Stall k n) = refl
event_named-of (TakeOver k b) = refl

-- names are in UTF-8
ascii : (xs : List ℕ) → list_all (λ x. nat_lt x 128) xs ≡ true → IsAscii xs
ascii [] h i = omega arith
ascii (x ∷ xs) h zero = let (p, q) = and_parts (nat_lt x 128) (list_all (λ z. nat_lt z 128) xs) h in grind (arith, nat_tests)
ascii (x ∷ xs) h (suc i) = let (p, q) = and_parts (nat_lt x 128) (list_all (λ z. nat_lt z 128) xs) h in ascii xs q i

name-utf8 : (e : Event) → IsUtf8 (name_of e)
name-utf8 (Look k) = IsUtf8-from_ascii (codes "look") (ascii (codes "look") refl)
name-utf8 (Refuse k n) = IsUtf8-from_ascii (codes "refuse") (ascii (codes "refuse") refl)
name-utf8 (Reserve k n) = IsUtf8-from_ascii (codes "reserve") (ascii (codes "reserve") refl)
name-utf8 (Behind k) = IsUtf8-from_ascii (codes "behind") (ascii (codes "behind") refl)
name-utf8 (Elected k b) = IsUtf8-from_ascii (codes "elected") (ascii (codes "elected") refl)
name-utf8 (Abdicating k) = IsUtf8-from_ascii (codes "abdicating") (ascii (codes "abdicating") refl)
name-utf8 (Advance k n) = IsUtf8-from_ascii (codes "advance") (ascii (codes "advance") refl)
name-utf8 (LeaveIdle k n) = IsUtf8-from_ascii (codes "idle") (ascii (codes "idle") refl)
name-utf8 (LeaveAbdicated k n) = IsUtf8-from_ascii (codes "abdicate") (ascii (codes "abdicate") refl)
name-utf8 (Stall k n) = IsUtf8-from_ascii (codes "stall") (ascii (codes "stall") refl)
name-utf8 (TakeOver k b) = IsUtf8-from_ascii (codes "takeover") (ascii (codes "takeover") refl)

option_cases : {A : Type 0} (o : Option A) → (o ≡ None) ⊎ ((x : A) × (o ≡ Some x))
option_cases None = inl refl
option_cases (Some x) = inr (x, refl)

-- what is not in UTF-8 names no event
pub no_name : (name : List ℕ) (seat : ℕ) (n : Option ℕ) → (IsUtf8 name → ⊥) → None ≡ event_named name seat n
no_name name seat n never = ⊎_elim
    (λ e. sym e)
    (λ t. absurd (never (subst IsUtf8 (sym (event_named-is name seat n t.0 t.1).0) (name-utf8 t.0))))
    (option_cases (event_named name seat n))

-- ---- two numbers, read

pub no_first : (text a b : List ℕ) → text ≡ a ++ (32 ∷ b) → Lacks 32 a → ((m : ℕ) → m < 2 ^ 32 → a ≢ decimal m)
    → (seat : ℕ) (n : Option ℕ) → seat < 2 ^ 32 → Fits32 n → text ≢ decimal seat ++ spaced_if n
no_first text a b is l never seat None s f e = lacks-behind 32 a b (subst (Lacks 32) (sym (append-nil (decimal seat)) ∙ sym e ∙ is) (lacks-decimal 32 seat (omega arith) s))
no_first text a b is l never seat (Some n) s f e = never seat s (cut-same 32 a b (decimal seat) (decimal n) l (lacks-decimal 32 seat (omega arith) s) (sym is ∙ e)).0

pub no_second : (text a b : List ℕ) → text ≡ a ++ (32 ∷ b) → Lacks 32 a → ((m : ℕ) → m < 2 ^ 32 → b ≢ decimal m)
    → (seat : ℕ) (n : Option ℕ) → seat < 2 ^ 32 → Fits32 n → text ≢ decimal seat ++ spaced_if n
no_second text a b is l never seat None s f e = lacks-behind 32 a b (subst (Lacks 32) (sym (append-nil (decimal seat)) ∙ sym e ∙ is) (lacks-decimal 32 seat (omega arith) s))
no_second text a b is l never seat (Some n) s f e = never n f (cut-same 32 a b (decimal seat) (decimal n) l (lacks-decimal 32 seat (omega arith) s) (sym is ∙ e)).1

pub no_single : (text : List ℕ) → Lacks 32 text → ((m : ℕ) → m < 2 ^ 32 → text ≢ decimal m)
    → (seat : ℕ) (n : Option ℕ) → seat < 2 ^ 32 → Fits32 n → text ≢ decimal seat ++ spaced_if n
no_single text l never seat None s f e = never seat s (e ∙ append-nil (decimal seat))
no_single text l never seat (Some n) s f e = lacks-behind 32 (decimal seat) (decimal n) (subst (Lacks 32) e l)

-- ---- an event, read

fits-most : (n : Option ℕ) (most : ℕ) → most < 2 ^ 32 → IfSome n (λ m. m ≤ most) → Fits32 n
fits-most None most l h = tt
fits-most (Some n) most l h = omega arith

most_of-less : (e : Event) → most_of e < 2 ^ 32
most_of-less (Look k) = omega arith
most_of-less (Refuse k n) = omega arith
most_of-less (Reserve k n) = omega arith
most_of-less (Behind k) = omega arith
most_of-less (Elected k b) = omega arith
most_of-less (Abdicating k) = omega arith
most_of-less (Advance k n) = omega arith
most_of-less (LeaveIdle k n) = omega arith
most_of-less (LeaveAbdicated k n) = omega arith
most_of-less (Stall k n) = omega arith
most_of-less (TakeOver k b) = omega arith

pub event-fits : (e : Event) → IsEvent e → Fits32 (number_of e)
event-fits e h = fits-most (number_of e) (most_of e) (most_of-less e) h.1

pub no_numbers : (line name rest : List ℕ) → line ≡ name ++ (32 ∷ rest) → Lacks 32 name
    → ((seat : ℕ) (n : Option ℕ) → seat < 2 ^ 32 → Fits32 n → rest ≢ decimal seat ++ spaced_if n) → (e : Event) → IsEvent e → line ≢ event_line e
no_numbers line name rest is l never e h at = never (seat_of e) (number_of e) h.0 (event-fits e h)
    (cut-same 32 name rest (name_of e) (decimal (seat_of e) ++ spaced_if (number_of e)) l (lacks-name e).0 (sym is ∙ at)).1

-- the event of a line is the one that is named so
pub named : (line name rest : List ℕ) (seat : ℕ) (n : Option ℕ) → line ≡ name ++ (32 ∷ rest) → Lacks 32 name → rest ≡ decimal seat ++ spaced_if n → seat < 2 ^ 32 → Fits32 n
    → (e : Event) → IsEvent e → line ≡ event_line e → event_named name seat n ≡ Some e
named line name rest seat n is l reads s f e h at =
    let t = cut-same 32 name rest (name_of e) (decimal (seat_of e) ++ spaced_if (number_of e)) l (lacks-name e).0 (sym is ∙ at) in
    let u = numbers-same seat (seat_of e) n (number_of e) s h.0 f (event-fits e h) (sym reads ∙ t.1) in
    (λ i. event_named (t.0 i) (u.0 i) (u.1 i)) ∙ event_named-of e

pub in_range : (e : Event) → IsEvent e → is_in_range e ≡ true
in_range (Look k) h = refl
in_range (Refuse k n) h = refl
in_range (Reserve k n) h = refl
in_range (Behind k) h = refl
in_range (Elected k b) h = le-leb b 65535 h.1
in_range (Abdicating k) h = refl
in_range (Advance k n) h = refl
in_range (LeaveIdle k n) h = refl
in_range (LeaveAbdicated k n) h = refl
in_range (Stall k n) h = refl
in_range (TakeOver k b) h = le-leb b 65535 h.1

pub if_none : {T : Type 0} (o : Option T) (P : Type 0) → P → IfNone o P
if_none None P p = p
if_none (Some x) P p = tt

-- ---- the ring's line, read

pub lacks-ring : Lacks 32 (codes "ring")
lacks-ring = lacks 32 (codes "ring") refl

pub ring-parts : (line name rest : List ℕ) → line ≡ name ++ (32 ∷ rest) → Lacks 32 name → (size seats : ℕ) → line ≡ ring_line size seats
    → (bytes_eq name (codes "ring") ≡ true) × (rest ≡ decimal size ++ spaced_if (Some seats))
ring-parts line name rest is l size seats at = let t = cut-same 32 name rest (codes "ring") (decimal size ++ spaced_if (Some seats)) l lacks-ring (sym is ∙ at) in
    ((bytes_eq-Decides name (codes "ring")).1 t.0, t.1)

pub ring-same : (line name rest : List ℕ) (s : ℕ) (n : Option ℕ) → line ≡ name ++ (32 ∷ rest) → Lacks 32 name → rest ≡ decimal s ++ spaced_if n → s < 2 ^ 32 → Fits32 n
    → (size seats : ℕ) → IsRing size seats → line ≡ ring_line size seats → (s ≡ size) × (n ≡ Some seats)
ring-same line name rest s n is l reads f g size seats h at = let t = ring-parts line name rest is l size seats at in let a = h.1 in let b = h.3 in
    numbers-same s size n (Some seats) f (omega arith) g (omega arith) (sym reads ∙ t.1)

pub ring-fits : (size seats : ℕ) → IsRing size seats → (size < 2 ^ 32) × (seats < 2 ^ 32)
ring-fits size seats h = let a = h.1 in let b = h.3 in (omega arith, omega arith)

-- ---- lines of a text

lacks-spaced_if : (n : Option ℕ) → Fits32 n → Lacks 10 (spaced_if n)
lacks-spaced_if None f = tt
lacks-spaced_if (Some n) f = ((λ e. absurd (omega arith)), lacks-decimal 10 n (omega arith) f)

pub lacks-event_line : (e : Event) → IsEvent e → Lacks 10 (event_line e)
lacks-event_line e h = lacks-append 10 (name_of e) (spaced (seat_of e) ++ spaced_if (number_of e)) (lacks-name e).1
    (lacks-append 10 (spaced (seat_of e)) (spaced_if (number_of e)) (lacks-spaced_if (Some (seat_of e)) h.0) (lacks-spaced_if (number_of e) (event-fits e h)))

pub lacks-ring_line : (size seats : ℕ) → IsRing size seats → Lacks 10 (ring_line size seats)
lacks-ring_line size seats h = let f = ring-fits size seats h in lacks-append 10 (codes "ring") (spaced size ++ spaced seats) (lacks 10 (codes "ring") refl)
    (lacks-append 10 (spaced size) (spaced seats) (lacks-spaced_if (Some size) f.0) (lacks-spaced_if (Some seats) f.1))

pub no_line : (text first behind : List ℕ) → Lacks 10 text → text ≢ first ++ (10 ∷ behind)
no_line text first behind l e = lacks-behind 10 first behind (subst (Lacks 10) e l)

pub no_event_line : (text line rest : List ℕ) → text ≡ line ++ (10 ∷ rest) → Lacks 10 line → ((e : Event) → IsEvent e → line ≢ event_line e)
    → (e : Event) (behind : List ℕ) → IsEvent e → text ≢ event_line e ++ (10 ∷ behind)
no_event_line text line rest is l never e behind h at = never e h (cut-same 10 line rest (event_line e) behind l (lacks-event_line e h) (sym is ∙ at)).0

pub no_ring_line : (text line rest : List ℕ) → text ≡ line ++ (10 ∷ rest) → Lacks 10 line → ((size seats : ℕ) → IsRing size seats → line ≢ ring_line size seats)
    → (size seats : ℕ) (behind : List ℕ) → IsRing size seats → text ≢ ring_line size seats ++ (10 ∷ behind)
no_ring_line text line rest is l never size seats behind h at = never size seats h (cut-same 10 line rest (ring_line size seats) behind l (lacks-ring_line size seats h) (sym is ∙ at)).0
