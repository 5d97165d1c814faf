-- The steps of a generation ring keep its rule.
use Rattle.std.proofs.Common.{◌≡◌, ◌≢◌, ℕ, zero, suc, ◌+◌, ◌-◌, ◌*◌, ◌/◌, ◌%◌, ◌<◌, ◌≤◌, true, List, [], ◌∷◌, ◌++◌, length, take, drop, set, get_or, replicate, sym, refl, ap, ◌∙◌, subst, arith, append-nil, length-append, mod-eq_of_lt, mod-lt}
use mathlib.Core.Option.{none}
use native.Mathlib.Decide.{ℕ_discrete}
use Rattle.std.specs.Prelude.{None}
use Rattle.std.proofs.Math.Seq.{take-add}
use Rattle.std.proofs.lemmas.List.{take-append-le}
use Rattle.std.proofs.lemmas.Nat.{div-mul-add}
use lib.ListN.{length-replicate}
use Rattle.atomic_table.specs.Table.{Me, step, opening, Allows}
use Rattle.ifl_desc.specs.declared.desc.Desc.{Desc}
use Rattle.ifl_desc.specs.declared.history.Side.TheVariants.{Driver, Device}
use Rattle.ifl_desc.specs.declared.history.Event.{Event}
use Rattle.ifl_desc.specs.declared.history.Event.TheVariants.{Sent, Looked}
use Rattle.ifl_desc.specs.declared.history.View.{View}
use Rattle.ifl_desc.specs.declared.rack.Rack.{Rack}
use Rattle.ifl_desc.specs.History.{sent, known, uncounted}
use Rattle.ifl_desc.specs.Frames.{IsFrame, IsSettled, open_after, frame_size}
use Rattle.ifl_desc.specs.Rule.{Slot, InOrder}
use Rattle.ifl_desc.specs.Plays.{pushed, pushed_by, pulled, counted, whole}
use Rattle.ifl_desc.proofs.DeviceCalls.{frame_of, short₁, total₁}
use Rattle.ifl_desc.specs.Rack.{IsRack, SameSeat, placed, seen_of}
use Rattle.ifl_desc.proofs.Steps.{Lies, looked_counts, sent_append, same_sent, same_known, tells}
use Rattle.ifl_desc.proofs.Allowed.{Has}
use Rattle.ifl_desc.proofs.OwnSteps.{rack_pushes, rack_pushes_by, rack_pulls, rack_counts, looked_sent}
use Rattle.ifl_desc.proofs.Rows.{slot_at}
use Rattle.ifl_desc.proofs.Beginning.{starts}
use Rattle.ifl_desc.proofs.Framing.{frame_ends, size_pos, length_uncounted, uncounted_less, uncounted_more}
use Rattle.ifl_generation.specs.Generation.{Shows, WordTie, Holds, frames, made, read, generation, completion, reach, up_to, Reads}
use Rattle.ifl_generation.proofs.Laps.{reach_is, slot_of}
use Rattle.ifl_generation.proofs.Entries.{frames_append, frames_split, frames_first}
use Rattle.ifl_generation.proofs.Ties.{shows_same, shows_rung, shows_returned, bears, bears_bit, bears_not, shows_read}
use Rattle.ifl_desc.specs.Sides.{DriverOk, DeviceOk}

-- the same words show a history with the same lengths
retold : (S : ℕ) (ws : List ℕ) (g h : List Event) (r k done : ℕ) (u : List Desc) → Shows S ws r k done u → r ≡ length (sent Driver h) → k ≡ known Driver h → done ≡ read h → u ≡ uncounted h → WordTie S ws h
retold S ws g h r k done u f a b c d = subst (λ (z : ℕ × ℕ × ℕ × List Desc). Shows S ws z.0 z.1 z.2 z.3) (λ i. (a i, b i, c i, d i)) f

pub tie_same : (S i : ℕ) (ws : List ℕ) (h : List Event) → WordTie S ws h → WordTie S (set ws i (get_or ws i 0)) h
tie_same S i ws h f = shows_same S ws (length (sent Driver h)) (known Driver h) (read h) (uncounted h) f i

-- a step at which nothing is rung, returned or counted
tie_quiet : (S : ℕ) (ws : List ℕ) (g h : List Event) → known Driver h ≡ known Driver g → sent Driver h ≡ sent Driver g → sent Device h ≡ sent Device g → WordTie S ws g → WordTie S ws h
tie_quiet S ws g h kn dr dv f = retold S ws g h (length (sent Driver g)) (known Driver g) (read g) (uncounted g) f (ap length (sym dr)) (sym kn) (λ i. frames (take (sym kn i) (sym dv i))) (λ i. drop (sym kn i) (sym dv i))

-- more returned frames change nothing of those that are read
read_still : (g h : List Event) (ds : List Desc) → known Driver g ≤ length (sent Device g) → known Driver h ≡ known Driver g → sent Device h ≡ sent Device g ++ ds → read h ≡ read g
read_still g h ds le k s = (λ i. frames (take (k i) (s i))) ∙ ap frames (take-append-le (known Driver g) (sent Device g) ds le)

read_more : (g h : List Event) (n : ℕ) → known Driver h ≡ known Driver g + n → sent Device h ≡ sent Device g → read h ≡ read g + frames (take n (uncounted g))
read_more g h n k s = (λ i. frames (take (k i) (s i))) ∙ ap frames (take-add (known Driver g) n (sent Device g)) ∙ frames_append (take (known Driver g) (sent Device g)) (take n (uncounted g))

pub rings : (h : Rack) (k : DriverOk h) (key slots id new : ℕ) → slots ≡ h.size → key ≡ h.size → open_after 0 (placed h) ≡ 0 → new ≡ (h.first + h.put) % h.size → new ≡ (length (sent Driver (seen_of h)) + h.put) % h.size
    → Allows (Holds key) slots id h.seat.me 0 (λ _. new) (λ _. pushed Driver (step slots 0 new 0 none) h.seat.me new)
rings h k key slots id new slots_is key_is whole word0 word =
    let a : List Event = seen_of h in
    let n = k.rack.many in let l = k.rack.left in let t = k.total in let b = k.bare in let f = k.rack.fits in
    let base = rack_pushes Driver h k.rack (WordTie h.size) id 0 new (omega arith) (omega arith) (k.short, whole) word
    (λ ws g has order f.
    let g' : List Event = g ++ Sent Driver (placed h) ∷ [] in
    let kn : known Driver g' ≡ known Driver g = let t = tells Driver g (Sent Driver (placed h)) in omega arith in
    let dv : sent Device g' ≡ sent Device g = sent_append Device g (Sent Driver (placed h) ∷ []) ∙ append-nil (sent Device g) in
    let dr : length (sent Driver g') ≡ length (sent Driver g) + length (placed h) = ap length (sent_append Driver g (Sent Driver (placed h) ∷ []) ∙ ap (λ (z : List Desc). sent Driver g ++ z) (append-nil (placed h))) ∙ length-append (sent Driver g) (placed h) in
    let is : new ≡ (length (sent Driver g) + length (placed h)) % h.size = word ∙ (λ i. (length (same g has i) + sym k.rack.many i) % h.size) in
    retold h.size (set ws 0 new) g g' (length (sent Driver g) + length (placed h)) (known Driver g) (read g) (uncounted g) (shows_rung h.size ws (length (sent Driver g)) (known Driver g) (read g) (uncounted g) f new (length (placed h)) is)
    (sym dr) (sym kn) (λ i. frames (take (sym kn i) (sym dv i))) (λ i. drop (sym kn i) (sym dv i))) in
    let P : ℕ × ℕ → Type 0 = λ z. Allows (Holds z.0) z.1 id h.seat.me 0 (λ _. new) (λ _. pushed Driver (step z.1 0 new 0 none) h.seat.me new) in
    subst P (λ i. (sym key_is i, sym slots_is i)) base
  where
    same : (g : List Event) → Has Driver (seen_of h) g → sent Driver (seen_of h) ≡ sent Driver g
    same g has = same_sent Driver (seen_of h) g has.1

pub hears : (h : Rack) (k : DeviceOk h) (key slots id : ℕ) → slots ≡ h.size → key ≡ h.size
    → Allows (Holds key) slots id h.seat.me 0 (λ x. x) (λ x m'. pulled Device (step slots 0 0 0 none) h.seat.me x m')
hears h k key slots id slots_is key_is =
    let P : ℕ × ℕ → Type 0 = λ z. Allows (Holds z.0) z.1 id h.seat.me 0 (λ x. x) (λ x m'. pulled Device (step z.1 0 0 0 none) h.seat.me x m') in
    subst P (λ i. (sym key_is i, sym slots_is i)) (rack_pulls Device h k.rack (WordTie h.size) id 0 (λ ws g f. (
      f.bell,
      λ n. tie_quiet h.size (set ws 0 (get_or ws 0 0)) g (g ++ Looked Device n ∷ [])
          (let t = tells Driver g (Looked Device n) in omega arith) (looked_sent Device Driver g n) (looked_sent Device Device g n) (tie_same h.size 0 ws g f),
    )))

pub few_left : (S : ℕ) (g : List Event) → InOrder S g → length (uncounted g) < S
few_left S g o = let l = length_uncounted g o.told in let a = o.done in let b = o.heard in let c = o.within in omega arith

module _ (h : Rack) (k : DriverOk h) (w : ℕ) (at : w ≡ suc (read (seen_of h) % h.size)) where
  abbrev S : ℕ
  S = h.size

  abbrev s : List Event
  s = seen_of h

  abbrev Goes : List ℕ → List Event → Type 0
  Goes ws g = (n : ℕ) × Lies Driver g n × WordTie S (set ws w (get_or ws w 0)) (g ++ Looked Driver n ∷ []) × ((m' : Me Slot View) → m'.0.seen ≡ g ++ Looked Driver n ∷ [] → counted Driver S (Looked Driver n) n h.seat.me m' → Reads (step S w 0 0 none) h.seat.me (get_or ws w 0) m')

  cases : (ws : List ℕ) (g : List Event) → InOrder S g → WordTie S ws g → known Driver g ≡ known Driver s → read g ≡ read s → suc (read g % S) ≡ w → length (uncounted g) < S
      → known Driver g + length (uncounted g) ≡ length (sent Device g) → Dec (length (uncounted g) ≡ 0) → Goes ws g
  cases ws g order f kn rd here few l (yes empty) =
      let old : get_or ws w 0 % 2 ≢ generation S (read s) = subst (λ (z : ℕ × ℕ). get_or ws z.0 0 % 2 ≢ generation S z.1) (λ i. (here i, rd i)) (bears_not S ws (length (sent Driver g)) (known Driver g) (read g) (uncounted g) f k.rack.some few empty) in
      let g' : List Event = g ++ Looked Driver 0 ∷ [] in
      let kn' : known Driver g' ≡ known Driver g = let t = tells Driver g (Looked Driver 0) in omega arith in
      let dv' : sent Device g' ≡ sent Device g = looked_sent Driver Device g 0 in (
        0,
        (let z : known Driver g + 0 ≤ length (sent Device g) = omega arith in z),
        tie_quiet S (set ws w (get_or ws w 0)) g g' kn' (looked_sent Driver Driver g 0) dv' (tie_same S w ws g f),
        λ m' seen told. record {
          new = λ e. absurd (old e);
          old = λ _. (
            told,
            ap read seen ∙ (λ i. frames (take (kn' i) (dv' i))) ∙ rd,
            ap (known Driver) seen ∙ kn' ∙ (let z : known Driver g ≡ length (sent Device g) = omega arith in z) ∙ ap length (sym dv') ∙ ap (λ (z : List Event). length (sent Device z)) (sym seen),
          );
        },
      )
  cases ws g order f kn rd here few l (no some) =
      let u : List Desc = uncounted g in
      let there : 0 < length u = omega arith in
      let n : ℕ = frame_size u in
      let pos : 0 < n = size_pos u there in
      let ends = frame_ends u f.whole in let fits = ends.0 in
      let first = frames_first u f.whole there in
      let x : ℕ = get_or ws w 0 in
      let bit : x % 2 ≡ generation S (read s) = subst (λ (z : ℕ × ℕ). get_or ws z.0 0 % 2 ≡ generation S z.1) (λ i. (here i, rd i)) (bears_bit S ws (length (sent Driver g)) (known Driver g) (read g) u f k.rack.some few there) in
      let found : x ≡ completion S (read g) (known Driver g + n) = ap (λ (z : ℕ). get_or ws z 0) (sym here) ∙ bears S ws (length (sent Driver g)) (known Driver g) (read g) u f k.rack.some few there in
      let many : reach S (known Driver s) x ≡ n = (λ i. reach S (sym kn i) (found i)) ∙ reach_is S (read g) (known Driver g) n pos (omega arith) in
      let slot : x / 65536 < S = let e : x / 65536 ≡ ((known Driver g + n) - 1) % S = ap (λ (z : ℕ). z / 65536) found ∙ slot_of S (read g) (((known Driver g + n) - 1) % S) in
      let lt : ((known Driver g + n) - 1) % S < S = mod-lt ((known Driver g + n) - 1) k.rack.some in let y : ℕ = x / 65536 in let v : ℕ = ((known Driver g + n) - 1) % S in let e' : y ≡ v = e in let r : y < S = omega arith in r in
      let g' : List Event = g ++ Looked Driver n ∷ [] in
      let kn' : known Driver g' ≡ known Driver g + n = tells Driver g (Looked Driver n) in
      let dv' : sent Device g' ≡ sent Device g = looked_sent Driver Device g n in
      let rd' : read g' ≡ suc (read g) = read_more g g' n kn' dv' ∙ (let one = first.0 in omega arith) in (
        n,
        (let z : known Driver g + n ≤ length (sent Device g) = omega arith in z),
        retold S (set ws w x) g g' (length (sent Driver g)) (known Driver g + n) (suc (read g)) (drop n u)
            (shows_same S ws (length (sent Driver g)) (known Driver g + n) (suc (read g)) (drop n u) (shows_read S ws (length (sent Driver g)) (known Driver g) (read g) u f k.rack.some few there) w)
            (ap length (sym (looked_sent Driver Driver g n))) (sym kn') (sym rd') (sym (uncounted_less g g' n kn' dv')),
        λ m' seen told. record {
          new = λ _. (
            subst (λ (z : ℕ). counted Driver S (Looked Driver z) z h.seat.me m') (sym many) told,
            subst (λ (z : ℕ). 0 < z) (sym many) pos,
            ap read seen ∙ rd' ∙ ap suc rd,
            slot,
          );
          old = λ ne. absurd (ne bit);
        },
      )

  by : (ws : List ℕ) (g : List Event) → Has Driver s g → InOrder S g → WordTie S ws g → Dec (length (uncounted g) ≡ 0) → Goes ws g
  by ws g has order f d =
      let told = k.rack.order.told in
      let kn : known Driver g ≡ known Driver s = sym (same_known Driver s g has.1) in
      let more : List Desc = sent Device has.0.0 in
      let dv : sent Device g ≡ sent Device s ++ more = ap (sent Device) (sym has.0.1) ∙ sent_append Device s has.0.0 in
      let rd : read g ≡ read s = read_still s g more told kn dv in
      let here : suc (read g % S) ≡ w = ap (λ (z : ℕ). suc (z % S)) rd ∙ sym at in
      let few = few_left S g order in
      let l = length_uncounted g order.told in
      cases ws g order f kn rd here few l d

  -- the driver looks at the next completion entry
  pub looks_at : (key slots id : ℕ) → slots ≡ h.size → key ≡ h.size → Allows (Holds key) slots id h.seat.me w (λ x. x) (Reads (step slots w 0 0 none) h.seat.me)
  looks_at key slots id slots_is key_is =
      let P : ℕ × ℕ → Type 0 = λ z. Allows (Holds z.0) z.1 id h.seat.me w (λ x. x) (Reads (step z.1 w 0 0 none) h.seat.me) in
      subst P (λ i. (sym key_is i, sym slots_is i)) (rack_counts Driver h k.rack (WordTie S) id w (λ x. x) (Looked Driver) (looked_counts Driver) (Reads (step S w 0 0 none) h.seat.me)
      (λ ws g has order f. by ws g has order f (ℕ_discrete (length (uncounted g)) 0)))

module _ (h h₁ : Rack) (d : Desc) (settled : IsSettled d.status) (k : DeviceOk h) (rack : IsRack Device h₁) (same : SameSeat h.seat h₁.seat) (list : placed h₁ ≡ placed h ++ d ∷ []) (pos : 0 < h.bare)
    (put : h₁.put ≡ h.put + 1) (bare : h₁.bare + 1 ≡ h.bare) (left : h₁.left ≡ h.left) (size : h₁.size ≡ h.size) where
  -- the word of a frame names as many slots as are ready
  pub names : (x : ℕ) → x ≡ generation h₁.size (made (seen_of h₁)) + 65536 * (((h₁.first + h₁.put) - 1) % h₁.size) → x ≡ completion h₁.size (made (seen_of h₁)) (length (sent Device (seen_of h₁)) + h₁.put)
  names x x_is = let a : ℕ = length (sent Device (seen_of h₁)) in x_is ∙ ap (λ (z : ℕ). generation h₁.size (made (seen_of h₁)) + 65536 * z) (slot_before (a) (h₁.put) (omega arith))
    where
      slot_before : (a n : ℕ) → 0 < h₁.put → ((h₁.first + h₁.put) - 1) % h₁.size ≡ ((length (sent Device (seen_of h₁)) + h₁.put) - 1) % h₁.size
      slot_before a n some = ap (λ (z : ℕ). z % h₁.size) (let g : (h₁.first + h₁.put) - 1 ≡ h₁.first + (h₁.put - 1) = omega arith in g) ∙ slot_at h₁.size (length (sent Device (seen_of h₁))) h₁.first (h₁.put - 1) rack.first
          ∙ ap (λ (z : ℕ). z % h₁.size) (let b : ℕ = length (sent Device (seen_of h₁)) in let g : b + (h₁.put - 1) ≡ (b + h₁.put) - 1 = omega arith in g)

  pub as_many : (i x : ℕ) → x ≡ generation h₁.size (made (seen_of h₁)) + 65536 * (((h₁.first + h₁.put) - 1) % h₁.size) → up_to (step h₁.size i x 0 none) (seen_of h₁) ≡ h₁.put
  as_many i x x_is = let short = short₁ h h₁ d settled k rack same list pos put bare left size in
      ap (λ (z : ℕ). reach h₁.size (length (sent Device (seen_of h₁))) z) (names x x_is) ∙ reach_is h₁.size (made (seen_of h₁)) (length (sent Device (seen_of h₁))) h₁.put (omega arith) short

  pub returns : d.last ≡ true → (key slots id w x : ℕ) → slots ≡ h₁.size → key ≡ h₁.size → w ≡ suc (made (seen_of h₁) % h₁.size) → x ≡ generation h₁.size (made (seen_of h₁)) + 65536 * (((h₁.first + h₁.put) - 1) % h₁.size)
      → Allows (Holds key) slots id h₁.seat.me w (λ _. x) (λ _. pushed_by up_to Device (step slots w x 0 none) h₁.seat.me x)
  returns marked key slots id w x slots_is key_is at x_is =
      let S : ℕ = h₁.size in
      let t = total₁ h h₁ d settled k rack same list pos put bare left size in
      let frame : IsFrame (placed h₁) = subst IsFrame (sym list) (frame_of (placed h) d k.begun marked settled) in
      let base = rack_pushes_by Device h₁ rack up_to (WordTie S) id w x (as_many w x x_is) (omega arith) frame
      (λ ws g has order f.
      let ds : List Desc = placed h₁ in
      let g' : List Event = g ++ Sent Device ds ∷ [] in
      let dv : sent Device (seen_of h₁) ≡ sent Device g = same_sent Device (seen_of h₁) g has.1 in
      let u : List Desc = uncounted g in
      let mk : made (seen_of h₁) ≡ read g + frames u = ap frames dv ∙ frames_split (known Driver g) (sent Device g) in
      let l = length_uncounted g order.told in
      let many = rack.many in
      let end : length (sent Device (seen_of h₁)) + h₁.put ≡ known Driver g + (length u + length ds) = let e = ap length dv in omega arith in
      let kn' : known Driver g' ≡ known Driver g = let t = tells Driver g (Sent Device ds) in omega arith in
      let dr' : sent Driver g' ≡ sent Driver g = sent_append Driver g (Sent Device ds ∷ []) ∙ append-nil (sent Driver g) in
      let dv' : sent Device g' ≡ sent Device g ++ ds = sent_append Device g (Sent Device ds ∷ []) ∙ ap (λ (z : List Desc). sent Device g ++ z) (append-nil ds) in
      retold S (set ws w x) g g' (length (sent Driver g)) (known Driver g) (read g) (u ++ ds)
      (shows_returned S ws (length (sent Driver g)) (known Driver g) (read g) u f rack.some (few_left S g order) ds frame w x (at ∙ ap (λ (z : ℕ). suc (z % S)) mk) (names x x_is ∙ (λ i. completion S (mk i) (end i))))
      (ap length (sym dr')) (sym kn') (sym (read_still g g' ds order.told kn' dv')) (sym (uncounted_more g g' ds order.told kn' dv'))) in
      let P : ℕ × ℕ → Type 0 = λ z. Allows (Holds z.0) z.1 id h₁.seat.me w (λ _. x) (λ _. pushed_by up_to Device (step z.1 w x 0 none) h₁.seat.me x) in
      subst P (λ i. (sym key_is i, sym slots_is i)) base

zeros : (n i : ℕ) → get_or (replicate {A = ℕ} n 0) i 0 ≡ 0
zeros zero i = refl
zeros (suc n) zero = refl
zeros (suc n) (suc i) = zeros n i

first_lap : (S j : ℕ) → j < S → generation S (0 + j) ≡ 1
first_lap S j lt = let q : (0 + j) / S ≡ 0 = ap (λ (z : ℕ). z / S) (let g : 0 + j ≡ 0 * S + j = omega arith in g) ∙ div-mul-add 0 S j lt in ap (λ (z : ℕ). suc z % 2) q

pub opens : (S n : ℕ) (ws : List ℕ) → 8 ≤ S → n ≡ suc S → ws ≡ replicate {A = ℕ} n 0 → Holds S (opening ws (replicate S None) whole)
opens S n ws le is zero_words =
    let z : 0 ≡ 0 % S = sym (mod-eq_of_lt (omega arith)) in
    let start : Holds S (opening (replicate {A = ℕ} n 0) (replicate S None) whole) = starts S (WordTie S) (replicate {A = ℕ} n 0) (omega arith) record {
      count = length-replicate n 0 ∙ is;
      bell = zeros n 0 ∙ z;
      whole = refl;
      returned = λ j lt. absurd (omega arith);
      others = λ j le lt e. let a : 0 ≡ 1 = ap (λ (z : ℕ). z % 2) (sym (zeros n (suc ((0 + j) % S)))) ∙ e ∙ first_lap S j lt in absurd (omega arith);
    } in
    subst (λ (z : List ℕ). Holds S (opening z (replicate S None) whole)) (sym zero_words) start
