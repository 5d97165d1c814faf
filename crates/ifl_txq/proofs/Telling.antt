-- What a queue tells of the packets that it took, as it takes one more and as frames are returned.
use Rattle.std.proofs.Common.{◌≡◌, ◌≢◌, ℕ, zero, suc, ◌+◌, ◌⊎◌, inl, inr, Bool, true, false, cond, eqb, List, [], ◌∷◌, ◌++◌, length, drop, Some, sym, refl, ap, ◌∙◌, subst, arith}
use mathlib.Core.Option.{some, some-injective, some-ne-none}
use lib.ListN.{get_elem?}
use Rattle.ifl_base.specs.declared.ticket.Ticket.{Ticket}
use Rattle.ifl_ringcore.specs.declared.history.Meaning.{Meaning}
use Rattle.ifl_desc.specs.declared.desc.Desc.{Desc}
use Rattle.ifl_base.specs.declared.fate.Fate.{Fate}
use Rattle.ifl_base.specs.declared.fate.Fate.TheVariants as fate
use Rattle.ifl_txq.specs.declared.line.Line.{Line}
use Rattle.ifl_txq.specs.Items.{tag_of, kick_tag}
use Rattle.ifl_txq.specs.Log.{is_same, is_noted, settled}
use Rattle.ifl_txq.specs.Standing.{packets, weight_of, IsNew, AreDistinct, AreListed, AreOf, IsPosted, IsTooLong, IsFlushed, Tells}
use Rattle.ifl_txq.proofs.Splitting.{EndsWith}
use Rattle.ifl_txq.proofs.Lines.{not_same, settled_here, settled_behind}

pub of_last : (t : Ticket) (marks : List ℕ) (front : List Desc) (d : Desc) → AreOf t marks (front ++ d ∷ []) → d.ticket ≡ t
of_last t marks [] d h = h.0
of_last t marks (x ∷ front) d h = of_last t marks front d h.2

no_frame : (fs : List (List Desc)) (i : ℕ) (f : List Desc) → fs ≡ [] → get_elem? fs i ≡ some f → ⊥
no_frame [] i f n e = some-ne-none f (sym e)
no_frame (x ∷ fs) i f n e = (let l = ap length n in omega arith)

module _ (max : ℕ) (saw : Type 0) where
  -- a packet was posted
  pub tells_posted : (saw → ⊥) → (ms : List Meaning) (ls : List Line) (fs : List (List Desc)) (xs : List Fate) (m : Meaning) (l : Line) (f : List Desc) → Tells max saw ms ls fs xs
      → tag_of l.ticket ≡ m.tag → IsPosted max m l f [] → Tells max saw (ms ++ m ∷ []) (ls ++ l ∷ []) (fs ++ f ∷ []) xs
  tells_posted unseen [] ls fs xs m l f t named p =
      subst (λ (z : List Line × List (List Desc) × List Fate). Tells max saw (m ∷ []) (z.0 ++ l ∷ []) (z.1 ++ f ∷ []) z.2) (λ i. (sym t.0 i, sym t.1 i, sym t.2 i))
      (named, inl (f, [], refl, p, (refl, refl, refl)))
  tells_posted unseen (m0 ∷ ms) [] fs xs m l f t named p = absurd t
  tells_posted unseen (m0 ∷ ms) (l0 ∷ ls) fs xs m l f t named p = (
    t.0,
    elim t.1 [
      | inl h ↦ inl (h.0, h.1 ++ f ∷ [], ap (λ (z : List (List Desc)). z ++ f ∷ []) h.2, h.3, tells_posted unseen ms ls h.1 (drop 1 xs) m l f h.4 named p)
      | inr k ↦ elim k [
        | inl h ↦ inr (inl (h.0, tells_posted unseen ms ls fs xs m l f h.1 named p))
        | inr h ↦ absurd (unseen h.0.saw_is)
      ]
    ],
  )

  -- a packet has too many segments
  pub tells_long : (ms : List Meaning) (ls : List Line) (fs : List (List Desc)) (xs : List Fate) (m : Meaning) (l : Line) → Tells max saw ms ls fs xs
      → tag_of l.ticket ≡ m.tag → IsTooLong max m l → Tells max saw (ms ++ m ∷ []) (ls ++ l ∷ []) fs xs
  tells_long [] ls fs xs m l t named p =
      subst (λ (z : List Line × List (List Desc) × List Fate). Tells max saw (m ∷ []) (z.0 ++ l ∷ []) z.1 z.2) (λ i. (sym t.0 i, sym t.1 i, sym t.2 i))
      (named, inr (inl (p, (refl, refl, refl))))
  tells_long (m0 ∷ ms) [] fs xs m l t named p = absurd t
  tells_long (m0 ∷ ms) (l0 ∷ ls) fs xs m l t named p = (
    t.0,
    elim t.1 [
      | inl h ↦ inl (h.0, h.1, h.2, h.3, tells_long ms ls h.1 (drop 1 xs) m l h.4 named p)
      | inr k ↦ elim k [
        | inl h ↦ inr (inl (h.0, tells_long ms ls fs xs m l h.1 named p))
        | inr h ↦ inr (inr (h.0, tells_long ms ls fs xs m l h.1 named p))
      ]
    ],
  )

  -- a packet was taken when the port was being stopped
  pub tells_flushed : saw → (ms : List Meaning) (ls : List Line) (fs : List (List Desc)) (xs : List Fate) (m : Meaning) (l : Line) → Tells max saw ms ls fs xs
      → tag_of l.ticket ≡ m.tag → l.fate ≡ Some fate.Flush → Tells max saw (ms ++ m ∷ []) (ls ++ l ∷ []) fs xs
  tells_flushed s [] ls fs xs m l t named p =
      subst (λ (z : List Line × List (List Desc) × List Fate). Tells max saw (m ∷ []) (z.0 ++ l ∷ []) z.1 z.2) (λ i. (sym t.0 i, sym t.1 i, sym t.2 i))
      (named, inr (inr (record { saw_is = s; fate_is = p; none = refl }, (refl, refl, refl))))
  tells_flushed s (m0 ∷ ms) [] fs xs m l t named p = absurd t
  tells_flushed s (m0 ∷ ms) (l0 ∷ ls) fs xs m l t named p = (
    t.0,
    elim t.1 [
      | inl h ↦ inl (h.0, h.1, h.2, h.3, tells_flushed s ms ls h.1 (drop 1 xs) m l h.4 named p)
      | inr k ↦ elim k [
        | inl h ↦ inr (inl (h.0, tells_flushed s ms ls fs xs m l h.1 named p))
        | inr h ↦ inr (inr (h.0, tells_flushed s ms ls fs xs m l h.1 named p))
      ]
    ],
  )

  -- a ticket whose number no packet bears has no line
  pub tells_new : (ms : List Meaning) (ls : List Line) (fs : List (List Desc)) (xs : List Fate) (t : Ticket) → Tells max saw ms ls fs xs → IsNew (tag_of t) ms → is_noted t ls ≡ false
  tells_new [] ls fs xs t h n = ap (is_noted t) h.0
  tells_new (m ∷ ms) [] fs xs t h n = absurd h
  tells_new (m ∷ ms) (l ∷ ls) fs xs t h n =
      let rest : is_noted t ls ≡ false = elim h.1 [
        | inl k ↦ tells_new ms ls k.1 (drop 1 xs) t k.4 n.1
        | inr k ↦ elim k [
          | inl j ↦ tells_new ms ls fs xs t j.1 n.1
          | inr j ↦ tells_new ms ls fs xs t j.1 n.1
        ]
      ] in
      let here : is_same l.ticket t ≡ false = not_same l.ticket t (λ e. n.0 (sym h.0 ∙ e)) in
      cc

  -- a posted frame is not of a packet that bears a number which is new
  tells_other : (tag : ℕ) (ms : List Meaning) (ls : List Line) (fs : List (List Desc)) (xs : List Fate) → Tells max saw ms ls fs xs → IsNew tag ms
      → (i : ℕ) (f : List Desc) (d : Desc) → get_elem? fs i ≡ some f → EndsWith d f → tag_of d.ticket ≢ tag
  tells_other tag [] ls fs xs h n i f d e w = absurd (no_frame fs i f h.1 e)
  tells_other tag (m ∷ ms) [] fs xs h n i f d e w = absurd h
  tells_other tag (m ∷ ms) (l ∷ ls) fs xs h n i f d e w = elim h.1 [
    | inl k ↦ by_place i k.0 k.1 (subst (λ (z : List (List Desc)). get_elem? z i ≡ some f) k.2 e) k.3.names (λ (j : ℕ) (a : get_elem? k.1 j ≡ some f). tells_other tag ms ls k.1 (drop 1 xs) k.4 n.1 j f d a w)
    | inr k ↦ elim k [
      | inl j ↦ tells_other tag ms ls fs xs j.1 n.1 i f d e w
      | inr j ↦ tells_other tag ms ls fs xs j.1 n.1 i f d e w
    ]
  ]
    where
      by_place : (j : ℕ) → (frame : List Desc) (behind : List (List Desc)) → get_elem? (frame ∷ behind) j ≡ some f → AreOf l.ticket m.marks frame
          → ((j : ℕ) → get_elem? behind j ≡ some f → tag_of d.ticket ≢ tag) → tag_of d.ticket ≢ tag
      by_place zero frame behind a names r =
          let own : AreOf l.ticket m.marks (w.0 ++ d ∷ []) = subst (AreOf l.ticket m.marks) (some-injective frame f a ∙ w.1) names in
          λ q. n.0 (sym h.0 ∙ ap tag_of (sym (of_last l.ticket m.marks w.0 d own)) ∙ q)
      by_place (suc j) frame behind a names r = r j a

  -- what a line tells of a packet, before the lines of those behind it
  abbrev Rest : List Meaning → Meaning → Line → List Line → List (List Desc) → List Fate → Type 0
  Rest ms m l ls gs zs = ((frame : List Desc) × (behind : List (List Desc)) × (gs ≡ frame ∷ behind) × IsPosted max m l frame zs × Tells max saw ms ls behind (drop 1 zs))
      ⊎ ((IsTooLong max m l × Tells max saw ms ls gs zs) ⊎ (IsFlushed saw l gs × Tells max saw ms ls gs zs))

  -- the next frame was returned: its packet gets its fate
  pub tells_settled : (ms : List Meaning) (ls : List Line) (fs : List (List Desc)) (xs : List Fate) (f : List Desc) (d : Desc) (y : Fate) → Tells max saw ms ls fs xs → AreDistinct ms
      → get_elem? fs (length xs) ≡ some f → EndsWith d f → Tells max saw ms (settled d.ticket y ls) fs (xs ++ y ∷ [])
  tells_settled [] ls fs xs f d y h u e w = absurd (no_frame fs (length xs) f h.1 e)
  tells_settled (m ∷ ms) [] fs xs f d y h u e w = absurd h
  tells_settled (m ∷ ms) (l ∷ ls) fs xs f d y h u e w = elim h.1 [
    | inl k ↦ by_fate xs k.0 k.1 k.2 (subst (λ (z : List (List Desc)). get_elem? z (length xs) ≡ some f) k.2 e) k.3 k.4 (λ (zs : List Fate) (a : get_elem? k.1 (length zs) ≡ some f) (t : Tells max saw ms ls k.1 zs). tells_settled ms ls k.1 zs f d y t u.1 a w)
    | inr k ↦ elim k [
      | inl j ↦ not_here (tells_other m.tag ms ls fs xs j.1 u.0 (length xs) f d e w) fs (xs ++ y ∷ []) (inr (inl (j.0, tells_settled ms ls fs xs f d y j.1 u.1 e w)))
      | inr j ↦ absurd (no_frame fs (length xs) f j.0.none e)
    ]
  ]
    where
      not_here : tag_of d.ticket ≢ m.tag → (gs : List (List Desc)) (zs : List Fate) → Rest ms m l (settled d.ticket y ls) gs zs → Tells max saw (m ∷ ms) (settled d.ticket y (l ∷ ls)) gs zs
      not_here n gs zs r = subst (λ (z : List Line). Tells max saw (m ∷ ms) z gs zs) (sym (settled_behind d.ticket y l ls (not_same l.ticket d.ticket (λ q. n (sym q ∙ h.0))))) (h.0, r)

      by_fate : (zs : List Fate) (frame : List Desc) (behind : List (List Desc)) → fs ≡ frame ∷ behind → get_elem? (frame ∷ behind) (length zs) ≡ some f → IsPosted max m l frame zs
          → Tells max saw ms ls behind (drop 1 zs) → ((zs : List Fate) → get_elem? behind (length zs) ≡ some f → Tells max saw ms ls behind zs → Tells max saw ms (settled d.ticket y ls) behind (zs ++ y ∷ []))
          → Tells max saw (m ∷ ms) (settled d.ticket y (l ∷ ls)) fs (zs ++ y ∷ [])
      by_fate [] frame behind is a p t r =
          let own : AreOf l.ticket m.marks (w.0 ++ d ∷ []) = subst (AreOf l.ticket m.marks) (some-injective frame f a ∙ w.1) p.names in
          let same : l.ticket ≡ d.ticket = sym (of_last l.ticket m.marks w.0 d own) in
          subst (λ (z : List Line). Tells max saw (m ∷ ms) z fs (y ∷ [])) (sym (settled_here d.ticket y l ls same p.fate_is))
          (h.0, inl (frame, behind, is, record { fits = p.fits; names = p.names; bytes = p.bytes; fate_is = refl }, t))
      by_fate (x ∷ zs) frame behind is a p t r =
          not_here (tells_other m.tag ms ls behind zs t u.0 (length zs) f d a w) fs (x ∷ (zs ++ y ∷ []))
          (inl (frame, behind, is, record { fits = p.fits; names = p.names; bytes = p.bytes; fate_is = p.fate_is }, r zs a t))

-- what the reader saw is seen from then on
pub tells_seen : (max : ℕ) (saw now : Type 0) → (saw → now) → (ms : List Meaning) (ls : List Line) (fs : List (List Desc)) (xs : List Fate) → Tells max saw ms ls fs xs → Tells max now ms ls fs xs
tells_seen max saw now s [] ls fs xs t = t
tells_seen max saw now s (m ∷ ms) [] fs xs t = absurd t
tells_seen max saw now s (m ∷ ms) (l ∷ ls) fs xs t = (
  t.0,
  elim t.1 [
    | inl h ↦ inl (h.0, h.1, h.2, h.3, tells_seen max saw now s ms ls h.1 (drop 1 xs) h.4)
    | inr k ↦ elim k [
      | inl h ↦ inr (inl (h.0, tells_seen max saw now s ms ls fs xs h.1))
      | inr h ↦ inr (inr (record { saw_is = s h.0.saw_is; fate_is = h.0.fate_is; none = h.0.none }, tells_seen max saw now s ms ls fs xs h.1))
    ]
  ],
)

pub packets_append : (xs ys : List Meaning) → packets (xs ++ ys) ≡ packets xs ++ packets ys
packets_append [] ys = refl
packets_append (m ∷ xs) ys = by_test (eqb m.tag kick_tag) (packets_append xs ys)
  where
    by_test : (b : Bool) → packets (xs ++ ys) ≡ packets xs ++ packets ys → cond b (packets (xs ++ ys)) (m ∷ packets (xs ++ ys)) ≡ cond b (packets xs) (m ∷ packets xs) ++ packets ys
    by_test true e = e
    by_test false e = ap (λ (z : List Meaning). m ∷ z) e

pub weight_append : (xs ys : List Meaning) → weight_of (xs ++ ys) ≡ weight_of xs + weight_of ys
weight_append [] ys = omega arith
weight_append (m ∷ xs) ys = let i = weight_append xs ys in omega arith

pub new_front : (tag : ℕ) (xs : List Meaning) (m : Meaning) → IsNew tag (xs ++ m ∷ []) → IsNew tag xs × (m.tag ≢ tag)
new_front tag [] m n = (tt, n.0)
new_front tag (x ∷ xs) m n = let r = new_front tag xs m n.1 in ((n.0, r.0), r.1)

-- the last of distinct ones is new among the others, which are distinct
pub distinct_last : (xs : List Meaning) (m : Meaning) → AreDistinct (xs ++ m ∷ []) → AreDistinct xs × IsNew m.tag xs
distinct_last [] m u = (tt, tt)
distinct_last (x ∷ xs) m u = let r = distinct_last xs m u.1 in let n = new_front x.tag xs m u.0 in ((n.0, r.0), ((λ e. n.1 (sym e)), r.1))

pub listed_last : (counts : List ℕ) (xs : List Meaning) (m : Meaning) → AreListed counts (xs ++ m ∷ []) → AreListed counts xs × AreListed counts (m ∷ [])
listed_last counts [] m h = (tt, h)
listed_last counts (x ∷ xs) m h = let r = listed_last counts xs m h.1 in ((h.0, r.0), r.1)
