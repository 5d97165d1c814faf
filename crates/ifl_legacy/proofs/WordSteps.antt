-- The steps of a legacy ring keep its rule.
use Rattle.std.proofs.Common.{◌≡◌, ℕ, zero, suc, ◌+◌, ◌%◌, ◌<◌, ◌≤◌, true, List, [], ◌∷◌, ◌++◌, length, drop, set, get_or, replicate, sym, refl, ap, ◌∙◌, subst, arith, length-append, mod-eq_of_lt}
use mathlib.Core.Option.{none}
use Rattle.std.specs.Prelude.{None}
use lib.ListN.{length-replicate}
use Rattle.atomic_table.specs.Table.{step, opening, Allows}
use Rattle.ifl_desc.specs.declared.desc.Desc.{Desc}
use Rattle.ifl_desc.specs.declared.history.Side.{Side}
use Rattle.ifl_desc.specs.declared.history.Side.TheVariants.{Driver, Device}
use Rattle.ifl_desc.specs.declared.history.Event.{Event}
use Rattle.ifl_desc.specs.declared.history.Event.TheVariants.{Looked, Cleared}
use Rattle.ifl_desc.specs.declared.rack.Rack.{Rack}
use Rattle.ifl_desc.specs.History.{sent, known, uncounted}
use Rattle.ifl_desc.specs.Frames.{IsFrame, IsSettled, open_after, frame_size}
use Rattle.ifl_desc.specs.Plays.{pushed, pushed_by, pulled, counted, whole}
use Rattle.ifl_desc.proofs.DeviceCalls.{frame_of, total₁}
use Rattle.ifl_desc.specs.Rack.{IsRack, SameSeat, placed, seen_of}
use Rattle.ifl_desc.proofs.Steps.{looked_counts, cleared_counts, sent_append, same_sent, same_known, tells}
use Rattle.ifl_desc.proofs.Allowed.{Has}
use Rattle.ifl_desc.proofs.OwnSteps.{rack_pushes, rack_pushes_by, rack_pulls, rack_counts, looked_sent}
use Rattle.ifl_desc.proofs.Beginning.{starts}
use Rattle.ifl_desc.proofs.Framing.{frame_ends, size_append, length_uncounted, uncounted_more}
use Rattle.ifl_legacy.specs.Legacy.{WordTie, Holds, named, peeked, cleared}
use Rattle.ifl_legacy.proofs.Statuses.{status_first}
use Rattle.ifl_legacy.proofs.Ties.{tie_same, tie_quiet, tie_rung, tie_returned, tie_cleared}
use Rattle.ifl_desc.specs.Sides.{DriverOk, DeviceOk}

pub rings : (h : Rack) (k : DriverOk h) (key slots id new : ℕ) → slots ≡ h.size → key ≡ h.size → open_after 0 (placed h) ≡ 0 → new ≡ (h.first + h.put) % h.size → new ≡ (length (sent Driver (seen_of h)) + h.put) % h.size
    → Allows (Holds key) slots id h.seat.me 0 (λ _. new) (λ _. pushed Driver (step slots 0 new 0 none) h.seat.me new)
rings h k key slots id new slots_is key_is whole word0 word =
    let a : List Event = seen_of h in
    let n = k.rack.many in let l = k.rack.left in let t = k.total in let b = k.bare in let f = k.rack.fits in
    let base = rack_pushes Driver h k.rack (WordTie h.size) id 0 new (omega arith) (omega arith) (k.short, whole) word
    (λ ws g has order f. tie_rung h.size new (placed h) ws g (word ∙ (λ i. (length (same g has i) + sym k.rack.many i) % h.size)) f) in
    let P : ℕ × ℕ → Type 0 = λ z. Allows (Holds z.0) z.1 id h.seat.me 0 (λ _. new) (λ _. pushed Driver (step z.1 0 new 0 none) h.seat.me new) in
    subst P (λ i. (sym key_is i, sym slots_is i)) base
  where
    same : (g : List Event) → Has Driver (seen_of h) g → sent Driver (seen_of h) ≡ sent Driver g
    same g has = same_sent Driver (seen_of h) g has.1

looked_known : (q : Side) (g : List Event) (n : ℕ) → known Driver (g ++ Looked Device n ∷ []) ≡ known Driver g
looked_known q g n = let t = tells Driver g (Looked Device n) in omega arith

pub hears : (h : Rack) (k : DeviceOk h) (key slots id : ℕ) → slots ≡ h.size → key ≡ h.size
    → Allows (Holds key) slots id h.seat.me 0 (λ x. x) (λ x m'. pulled Device (step slots 0 0 0 none) h.seat.me x m')
hears h k key slots id slots_is key_is =
    let P : ℕ × ℕ → Type 0 = λ z. Allows (Holds z.0) z.1 id h.seat.me 0 (λ x. x) (λ x m'. pulled Device (step z.1 0 0 0 none) h.seat.me x m') in
    subst P (λ i. (sym key_is i, sym slots_is i)) (rack_pulls Device h k.rack (WordTie h.size) id 0 (λ ws g f. (
      f.bell,
      λ n. tie_quiet h.size (set ws 0 (get_or ws 0 0)) g (g ++ Looked Device n ∷ [])
          (looked_known Device g n) (looked_sent Device Driver g n) (looked_sent Device Device g n) (tie_same h.size 0 ws g f),
    )))

-- the driver looks at the word of the first entry that is not counted
pub peeks : (h : Rack) (k : DriverOk h) (key slots id w : ℕ) → slots ≡ h.size → key ≡ h.size → w ≡ suc (known Driver (seen_of h) % h.size)
    → Allows (Holds key) slots id h.seat.me w (λ x. x) (λ x m'. peeked (step slots w 0 0 none) h.seat.me x m')
peeks h k key slots id w slots_is key_is at =
    let P : ℕ × ℕ → Type 0 = λ z. Allows (Holds z.0) z.1 id h.seat.me w (λ x. x) (λ x m'. peeked (step z.1 w 0 0 none) h.seat.me x m') in
    subst P (λ i. (sym key_is i, sym slots_is i)) (rack_counts Driver h k.rack (WordTie h.size) id w (λ x. x) (Looked Driver) (looked_counts Driver) (λ x m'. peeked (step h.size w 0 0 none) h.seat.me x m')
    (λ ws g has order f.
    let o = order.told in
    let pos = k.rack.some in
    let g' : List Event = g ++ Looked Driver 0 ∷ [] in
    let kn : known Driver g' ≡ known Driver g = let t = tells Driver g (Looked Driver 0) in omega arith in
    let dv : sent Device g' ≡ sent Device g = looked_sent Driver Device g 0 in
    let u_is : uncounted g' ≡ uncounted g = λ i. drop (kn i) (dv i) in
    let here : w ≡ suc ((known Driver g + 0) % h.size) = at ∙ ap (λ (z : ℕ). suc (z % h.size)) (let e : known Driver (seen_of h) ≡ known Driver g + 0 = let s = same_known Driver (seen_of h) g has.1 in omega arith in e) in (
      0,
      (let l : known Driver g + 0 ≤ length (sent Device g) = omega arith in l),
      tie_quiet h.size (set ws w (get_or ws w 0)) g g' kn (looked_sent Driver Driver g 0) dv (tie_same h.size w ws g f),
      λ m' seen told. (
        told,
        ap (λ (z : List Event). open_after 0 (uncounted z)) seen ∙ ap (open_after 0) u_is ∙ f.whole,
        ap (λ (z : ℕ). get_or ws z 0) here ∙ f.status 0 pos ∙ status_first (uncounted g) ∙ ap frame_size (sym u_is) ∙ ap (λ (z : List Event). frame_size (uncounted z)) (sym seen),
      ),
    )))

-- the driver clears that word, where it has seen a frame there
pub clears : (h : Rack) (k : DriverOk h) (key slots id w : ℕ) → slots ≡ h.size → key ≡ h.size → w ≡ suc (known Driver (seen_of h) % h.size) → open_after 0 (uncounted (seen_of h)) ≡ 0 → 0 < length (uncounted (seen_of h))
    → Allows (Holds key) slots id h.seat.me w (λ _. 0) (λ _ m'. cleared (step slots w 0 0 none) h.seat.me 0 m')
clears h k key slots id w slots_is key_is at whole there =
    let P : ℕ × ℕ → Type 0 = λ z. Allows (Holds z.0) z.1 id h.seat.me w (λ _. 0) (λ _ m'. cleared (step z.1 w 0 0 none) h.seat.me 0 m') in
    let s : List Event = seen_of h in
    subst P (λ i. (sym key_is i, sym slots_is i)) (rack_counts Driver h k.rack (WordTie h.size) id w (λ _. 0) Cleared cleared_counts (λ _ m'. cleared (step h.size w 0 0 none) h.seat.me 0 m')
    (λ ws g has order f.
    let told = k.rack.order.told in
    let kn : known Driver g ≡ known Driver s = sym (same_known Driver s g has.1) in
    let more : List Desc = sent Device has.0.0 in
    let dv : sent Device g ≡ sent Device s ++ more = ap (sent Device) (sym has.0.1) ∙ sent_append Device s has.0.0 in
    let u_is : uncounted g ≡ uncounted s ++ more = uncounted_more s g more told kn dv in
    let same : frame_size (uncounted g) ≡ frame_size (uncounted s) = ap frame_size u_is ∙ size_append (uncounted s) more whole there in
    let some : 0 < length (uncounted g) = let l = ap length u_is in let l' = length-append (uncounted s) more in omega arith in
    let ends = frame_ends (uncounted g) f.whole in let fits = ends.0 in
    let l = length_uncounted g order.told in
    let here : w ≡ suc (known Driver g % h.size) = at ∙ ap (λ (z : ℕ). suc (z % h.size)) (sym kn) in (
      frame_size (uncounted g),
      (let l : known Driver g + frame_size (uncounted g) ≤ length (sent Device g) = omega arith in l),
      tie_cleared h.size ws g f order k.rack.some some w here,
      λ m' seen told. subst (λ (z : ℕ). counted Driver h.size (Cleared z) z h.seat.me m') same told,
    )))

module _ (h h₁ : Rack) (d : Desc) (settled : IsSettled d.status) (k : DeviceOk h) (rack : IsRack Device h₁) (same : SameSeat h.seat h₁.seat) (list : placed h₁ ≡ placed h ++ d ∷ []) (pos : 0 < h.bare)
    (put : h₁.put ≡ h.put + 1) (bare : h₁.bare + 1 ≡ h.bare) (left : h₁.left ≡ h.left) (size : h₁.size ≡ h.size) where
  pub returns : d.last ≡ true → (key slots id : ℕ) → slots ≡ h₁.size → key ≡ h₁.size
      → Allows (Holds key) slots id h₁.seat.me (1 + h₁.first) (λ _. h₁.put) (λ _. pushed_by named Device (step slots (1 + h₁.first) h₁.put 0 none) h₁.seat.me h₁.put)
  returns marked key slots id slots_is key_is =
      let w : ℕ = 1 + h₁.first in
      let t = total₁ h h₁ d settled k rack same list pos put bare left size in
      let frame : IsFrame (placed h₁) = subst IsFrame (sym list) (frame_of (placed h) d k.begun marked settled) in
      let at : w ≡ suc (length (sent Device (seen_of h₁)) % h₁.size) = let e = rack.first in omega arith in
      let base = rack_pushes_by Device h₁ rack named (WordTie h₁.size) id w h₁.put refl (omega arith) frame
      (λ ws g has order f. tie_returned h₁.size ws g f order rack.some (placed h₁) frame w h₁.put (at ∙ ap (λ (z : List Desc). suc (length z % h₁.size)) (same_sent Device (seen_of h₁) g has.1)) (sym rack.many)) in
      let P : ℕ × ℕ → Type 0 = λ z. Allows (Holds z.0) z.1 id h₁.seat.me w (λ _. h₁.put) (λ _. pushed_by named Device (step z.1 w h₁.put 0 none) h₁.seat.me h₁.put) in
      subst P (λ i. (sym key_is i, sym slots_is i)) base

zeros : (n i : ℕ) → get_or (replicate {A = ℕ} n 0) i 0 ≡ 0
zeros zero i = refl
zeros (suc n) zero = refl
zeros (suc n) (suc i) = zeros n i

pub opens : (S n : ℕ) (ws : List ℕ) → 8 ≤ S → n ≡ suc S → ws ≡ replicate {A = ℕ} n 0 → Holds S (opening ws (replicate S None) whole)
opens S n ws le is zero_words =
    let z : 0 ≡ 0 % S = sym (mod-eq_of_lt (omega arith)) in
    let start : Holds S (opening (replicate {A = ℕ} n 0) (replicate S None) whole) = starts S (WordTie S) (replicate {A = ℕ} n 0) (omega arith) record {
      count = length-replicate n 0 ∙ is;
      bell = zeros n 0 ∙ z;
      whole = refl;
      status = λ j lt. zeros n (suc ((0 + j) % S));
    } in
    subst (λ (z : List ℕ). Holds S (opening z (replicate S None) whole)) (sym zero_words) start
