-- How a frame is returned, an entry at a time.
use Rattle.std.proofs.Common.{◌≡◌, ℕ, suc, ◌+◌, ◌<◌, ◌≤◌, Bool, true, false, cond, List, [], ◌∷◌, ◌++◌, length, map, drop, get_or, sym, refl, ap, ◌∙◌, subst, arith, append_assoc, length-append}
use Rattle.std.proofs.Props.{props}
use mathlib.Core.List.{reverse}
use Rattle.std.proofs.lemmas.List.{reverse-append, reverse-reverse, length-reverse, length-map}
use Rattle.ifl_desc.specs.declared.desc.Desc.{Desc}
use Rattle.ifl_desc.specs.declared.history.Side.TheVariants.{Device}
use Rattle.ifl_desc.specs.declared.history.Event.{Event}
use Rattle.ifl_desc.specs.declared.history.Event.TheVariants.{Sent}
use Rattle.ifl_desc.specs.History.{sent}
use Rattle.ifl_desc.specs.Ends.{DeviceSees, completed}
use Rattle.ifl_desc.specs.Calls.{Grew, Completes}
use Rattle.ifl_desc.specs.declared.desc.Status.{Status}
use Rattle.ifl_desc.specs.Frames.{IsWholeFrame}
use Rattle.ifl_device.specs.Adapter.{returned_as}

fits_same : (n : ℕ) (a b : n ≤ 2048) → a ≡ b
fits_same n a b = let p : IsProp (n ≤ 2048) = hlevel (props) in p a b

-- the device's end went from a to b by completing what the frame had before these
abbrev pub Giving : Status → DeviceSees → DeviceSees → List Desc → List Desc → Type 0
Giving s a b frame [] = Grew Device a.seen b.seen (Sent Device (map (returned_as s) frame)) × (b ≡ record a { seen = b.seen })
Giving s a b frame (d ∷ ds) = IsWholeFrame (d ∷ ds) × (b ≡ record a { ready = b.ready }) × (b.ready ++ map (returned_as s) (d ∷ ds) ≡ map (returned_as s) frame)

reverse_first : (x : Desc) (xs : List Desc) → reverse (x ∷ xs) ≡ reverse xs ++ x ∷ []
reverse_first x xs = reverse-append (x ∷ []) xs

reverse_last : (xs : List Desc) (x : Desc) → reverse (xs ++ x ∷ []) ≡ x ∷ reverse xs
reverse_last xs x = reverse-append xs (x ∷ [])

last_same : (xs ys : List Desc) (x y : Desc) → xs ++ x ∷ [] ≡ ys ++ y ∷ [] → (xs ≡ ys) × (x ≡ y)
last_same xs ys x y e =
    let r : x ∷ reverse xs ≡ y ∷ reverse ys = sym (reverse_last xs x) ∙ ap reverse e ∙ reverse_last ys y in
    let t : reverse xs ≡ reverse ys = ap (drop 1) r in
    (sym (reverse-reverse xs) ∙ ap reverse t ∙ reverse-reverse ys, ap (λ (z : List Desc). get_or z 0 x) r)

-- the last of a reversed list is the first of the list
pub popped : (rest : List Desc) (x : Desc) (left : List Desc) → rest ++ x ∷ [] ≡ reverse left → (ds : List Desc) × (left ≡ x ∷ ds) × (rest ≡ reverse ds)
popped rest x [] e = let l = ap length e in let a = length-append rest (x ∷ []) in absurd (omega arith)
popped rest x (d ∷ ds) e = let l = last_same rest (reverse ds) x d (e ∙ reverse_first d ds) in (ds, ap (λ (z : Desc). z ∷ ds) (sym l.1), l.0)

pub none_left : (left : List Desc) → [] ≡ reverse left → left ≡ []
none_left [] e = refl
none_left (d ∷ ds) e = let l = ap length e in let a = length-reverse (d ∷ ds) in absurd (omega arith)

-- there is one more to complete
pub more_left : (s : Status) (a b : DeviceSees) (frame : List Desc) (d : Desc) (ds : List Desc) → Giving s a b frame (d ∷ ds) → a.fetched ≡ completed a + length frame → completed b < b.fetched
more_left s a b frame d ds g all =
    let so = ap (λ (z : DeviceSees). length (sent Device z.seen)) g.1 in let f = ap (λ (z : DeviceSees). z.fetched) g.1 in
    let l : length b.ready + suc (length ds) ≡ length frame =
    sym (length-append b.ready (map (returned_as s) (d ∷ ds)) ∙ ap (λ (z : ℕ). length b.ready + z) (length-map (d ∷ ds) (returned_as s))) ∙ ap length g.2 ∙ length-map frame (returned_as s) in
    omega arith

module _ (s : Status) (a b c : DeviceSees) (frame : List Desc) where
  completed_at : (d : Desc) (ds : List Desc) (last : Bool) → d.last ≡ last → Giving s a b frame (d ∷ ds) → a.ready ≡ []
      → cond last (Grew Device b.seen c.seen (Sent Device (b.ready ++ returned_as s d ∷ [])) × (c ≡ record b { seen = c.seen; ready = [] })) (c ≡ record b { ready = b.ready ++ returned_as s d ∷ [] }) → Giving s a c frame ds
  completed_at d [] true e g none k =
      let seen : b.seen ≡ a.seen = ap (λ (z : DeviceSees). z.seen) g.1 in (
        subst (λ (z : List Event × List Desc). Grew Device z.0 c.seen (Sent Device z.1)) (λ i. (seen i, g.2 i)) k.0,
        k.1 ∙ (λ i. record { ring = (g.1 i).ring; seen = c.seen; fetched = (g.1 i).fetched; ready = sym none i }),
      )
  completed_at d [] false e g none k = absurd (let x : true ≡ false = sym g.0 ∙ e in cc)
  completed_at d (x ∷ ds) true e g none k = absurd (let y : false ≡ true = sym g.0.0 ∙ e in cc)
  completed_at d (x ∷ ds) false e g none k = (
    g.0.1,
    k ∙ (λ i. record { ring = (g.1 i).ring; seen = (g.1 i).seen; fetched = (g.1 i).fetched; ready = ap (λ (z : DeviceSees). z.ready) (sym k) i }),
    ap (λ (z : DeviceSees). z.ready ++ map (returned_as s) (x ∷ ds)) k ∙ append_assoc b.ready (returned_as s d ∷ []) (map (returned_as s) (x ∷ ds)) ∙ g.2,
  )

  -- one more is completed, whichever proof says that its segment lies within a cluster
  pub completed_one : (d : Desc) (ds : List Desc) → Giving s a b frame (d ∷ ds) → a.ready ≡ [] → (fits : length d.seg.bytes ≤ 2048) → Completes b (record (returned_as s d) { fits = fits }) c → Giving s a c frame ds
  completed_one d ds g none fits k = completed_at d ds d.last refl g none (subst (λ (z : Desc). Completes b z c) (λ i. record (returned_as s d) { fits = fits_same (length d.seg.bytes) fits d.fits i }) k)
