-- Lines of a log.
use Rattle.std.proofs.Common.{◌≡◌, ◌≢◌, ℕ, ◌%◌, ◌/◌, ◌<◌, Bool, true, false, not, ◌&&◌, ◌||◌, cond, List, [], ◌∷◌, ◌++◌, Option, Some, None, slice_index, refl, ap, ◌∙◌, subst, arith}
use Rattle.std.proofs.lemmas.Bool.Decides.{nat_tests}
use Rattle.ifl_base.specs.declared.ticket.Ticket.{Ticket}
use Rattle.ifl_base.specs.declared.fate.Fate.{Fate}
use Rattle.ifl_txq.specs.declared.line.Line.{Line}
use Rattle.ifl_txq.specs.Items.{tag_of}
use Rattle.ifl_txq.specs.Log.{FitsIn, is_same, is_listed, is_noted, noted, open_line, settled, fate_or}

pub same_itself : (t : Ticket) → is_same t t ≡ true
same_itself t = grind (arith, nat_tests)

pub same_tickets : (a b : Ticket) → is_same a b ≡ true → (a.sender ≡ b.sender) × (a.index ≡ b.index)
same_tickets a b e = (grind (arith, nat_tests), grind (arith, nat_tests))

pub not_same : (a b : Ticket) → tag_of a ≢ tag_of b → is_same a b ≡ false
not_same a b n = by_test (is_same a b) refl
  where
    by_test : (c : Bool) → is_same a b ≡ c → c ≡ false
    by_test true e = let s = same_tickets a b e in absurd (n (let i = s.0 in let j = s.1 in omega arith))
    by_test false e = refl

-- a ticket whose number is one of the tables lies in the tables
pub listed_by_tag : (counts : List ℕ) (t : Ticket) → FitsIn t → tag_of t % 4294967296 < slice_index counts (tag_of t / 4294967296) → is_listed counts t ≡ true
listed_by_tag counts t fits h =
    let s : t.sender < 65536 = fits.0 in let i : t.index < 4294967296 = fits.1 in
    let q : tag_of t / 4294967296 ≡ t.sender = omega arith in
    let r : tag_of t % 4294967296 ≡ t.index = omega arith in
    let lt : t.index < slice_index counts t.sender = subst (λ (z : ℕ × ℕ). z.0 < slice_index counts z.1) (λ k. (r k, q k)) h in
    grind (arith, nat_tests)

pub noted_new : (counts : List ℕ) (t : Ticket) (ls : List Line) → is_listed counts t ≡ true → is_noted t ls ≡ false → noted counts t ls ≡ ls ++ open_line t ∷ []
noted_new counts t ls l n = λ i. cond (l i && not (n i)) (ls ++ open_line t ∷ []) ls

-- the fate of a line that was noted last
pub settled_new : (t : Ticket) (f : Fate) (ls : List Line) → is_noted t ls ≡ false → settled t f (ls ++ open_line t ∷ []) ≡ ls ++ record { ticket = t; fate = Some f } ∷ []
settled_new t f [] n = ap (λ (b : Bool). cond b (record { ticket = t; fate = Some f } ∷ []) (open_line t ∷ [])) (same_itself t)
settled_new t f (l ∷ ls) n = by_test (is_same l.ticket t) n (λ (e : is_noted t ls ≡ false). settled_new t f ls e)
  where
    by_test : (b : Bool) → (b || is_noted t ls) ≡ false → (is_noted t ls ≡ false → settled t f (ls ++ open_line t ∷ []) ≡ ls ++ record { ticket = t; fate = Some f } ∷ [])
        → cond b (record { ticket = l.ticket; fate = fate_or l.fate f } ∷ (ls ++ open_line t ∷ [])) (l ∷ settled t f (ls ++ open_line t ∷ [])) ≡ l ∷ (ls ++ record { ticket = t; fate = Some f } ∷ [])
    by_test true e r = absurd (cc)
    by_test false e r = ap (λ (z : List Line). l ∷ z) (r e)

pub settled_here : (t : Ticket) (f : Fate) (l : Line) (ls : List Line) → l.ticket ≡ t → l.fate ≡ None → settled t f (l ∷ ls) ≡ record { ticket = l.ticket; fate = Some f } ∷ ls
settled_here t f l ls e n = ap (λ (b : Bool). cond b (record { ticket = l.ticket; fate = fate_or l.fate f } ∷ ls) (l ∷ settled t f ls)) (ap (λ (z : Ticket). is_same z t) e ∙ same_itself t)
    ∙ ap (λ (z : Option Fate). record { ticket = l.ticket; fate = fate_or z f } ∷ ls) n

pub settled_behind : (t : Ticket) (f : Fate) (l : Line) (ls : List Line) → is_same l.ticket t ≡ false → settled t f (l ∷ ls) ≡ l ∷ settled t f ls
settled_behind t f l ls e = ap (λ (b : Bool). cond b (record { ticket = l.ticket; fate = fate_or l.fate f } ∷ ls) (l ∷ settled t f ls)) e
