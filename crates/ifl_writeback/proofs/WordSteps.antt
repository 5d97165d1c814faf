-- The steps of a writeback ring keep its rule.
use Rattle.std.proofs.Common.{◌≡◌, ℕ, zero, suc, ◌+◌, ◌%◌, ◌<◌, ◌≤◌, true, List, [], ◌∷◌, ◌++◌, length, set, get_or, replicate, sym, refl, ap, ◌∙◌, subst, arith, length-set, append-nil, get_or-set_other, get_or-set_same, length-append, mod-eq_of_lt}
use mathlib.Core.Option.{none}
use Rattle.std.specs.Prelude.{None}
use Rattle.atomic_table.specs.Table.{step, opening, Allows}
use Rattle.ifl_desc.specs.declared.desc.Desc.{Desc}
use Rattle.ifl_desc.specs.declared.history.Side.{Side}
use Rattle.ifl_desc.specs.declared.history.Side.TheVariants.{Driver, Device}
use Rattle.ifl_desc.specs.declared.history.Event.{Event}
use Rattle.ifl_desc.specs.declared.history.Event.TheVariants.{Sent, Looked}
use Rattle.ifl_desc.specs.declared.rack.Rack.{Rack}
use Rattle.ifl_desc.specs.History.{sent}
use Rattle.ifl_desc.specs.Frames.{IsFrame, IsSettled, open_after}
use Rattle.ifl_desc.specs.Rule.{StaysTied}
use Rattle.ifl_desc.specs.Plays.{pushed, pulled, whole}
use Rattle.ifl_desc.proofs.DeviceCalls.{frame_of, word₁, short₁, total₁}
use Rattle.ifl_desc.specs.Rack.{IsRack, SameSeat, placed, seen_of}
use Rattle.ifl_desc.proofs.Steps.{sent_append, same_sent}
use Rattle.ifl_desc.proofs.Allowed.{Has}
use Rattle.ifl_desc.proofs.OwnSteps.{rack_pushes, rack_pulls, looked_sent}
use Rattle.ifl_desc.proofs.Beginning.{starts}
use Rattle.ifl_writeback.specs.Writeback.{WordTie, Holds}
use Rattle.ifl_desc.specs.Sides.{DriverOk, DeviceOk}

-- the doorbell
bell_shows : (S new : ℕ) (ds : List Desc) (ws : List ℕ) (g : List Event) → new ≡ (length (sent Driver g) + length ds) % S → WordTie S ws g → WordTie S (set ws 0 new) (g ++ Sent Driver ds ∷ [])
bell_shows S new ds ws g is f = let c = f.count in record {
  count = length-set ws 0 new ∙ f.count;
  bell = get_or-set_same ws 0 new 0 (omega arith) ∙ is ∙ ap (λ (z : ℕ). z % S) (sym (ap length (sent_append Driver g (Sent Driver ds ∷ []) ∙ ap (λ (z : List Desc). sent Driver g ++ z) (append-nil ds)) ∙ length-append (sent Driver g) ds));
  head = get_or-set_other ws 0 1 new 0 (λ e. omega arith) ∙ f.head ∙ ap (λ (z : List Desc). length z % S) (sym (sent_append Device g (Sent Driver ds ∷ []) ∙ append-nil (sent Device g)));
}

pub rings : (h : Rack) (k : DriverOk h) (key slots id new : ℕ) → slots ≡ h.size → key ≡ h.size → open_after 0 (placed h) ≡ 0 → new ≡ (h.first + h.put) % h.size → new ≡ (length (sent Driver (seen_of h)) + h.put) % h.size
    → Allows (Holds key) slots id h.seat.me 0 (λ _. new) (λ _. pushed Driver (step slots 0 new 0 none) h.seat.me new)
rings h k key slots id new slots_is key_is whole word0 word =
    let a : List Event = seen_of h in
    let n = k.rack.many in let l = k.rack.left in let t = k.total in let b = k.bare in let f = k.rack.fits in
    let base = rack_pushes Driver h k.rack (WordTie h.size) id 0 new (omega arith) (omega arith) (k.short, whole) word
    (λ ws g has order f. bell_shows h.size new (placed h) ws g (word ∙ (λ i. (length (same g has i) + sym k.rack.many i) % h.size)) f) in
    let P : ℕ × ℕ → Type 0 = λ z. Allows (Holds z.0) z.1 id h.seat.me 0 (λ _. new) (λ _. pushed Driver (step z.1 0 new 0 none) h.seat.me new) in
    subst P (λ i. (sym key_is i, sym slots_is i)) base
  where
    same : (g : List Event) → Has Driver (seen_of h) g → sent Driver (seen_of h) ≡ sent Driver g
    same g has = same_sent Driver (seen_of h) g has.1

same_word : (ws : List ℕ) (i j : ℕ) → get_or (set ws i (get_or ws i 0)) j 0 ≡ get_or ws j 0
same_word [] i j = refl
same_word (w ∷ ws) zero j = refl
same_word (w ∷ ws) (suc i) zero = refl
same_word (w ∷ ws) (suc i) (suc j) = same_word ws i j

-- the two words at a load
tie_stays : (S : ℕ) (r : Side) (i n : ℕ) (ws : List ℕ) (g : List Event) → i < 2 → WordTie S ws g → WordTie S (set ws i (get_or ws i 0)) (g ++ Looked r n ∷ [])
tie_stays S r i n ws g lt f = let c = f.count in record {
  count = length-set ws i (get_or ws i 0) ∙ f.count;
  bell = same_word ws i 0 ∙ f.bell ∙ ap (λ (z : List Desc). length z % S) (sym (looked_sent r Driver g n));
  head = same_word ws i 1 ∙ f.head ∙ ap (λ (z : List Desc). length z % S) (sym (looked_sent r Device g n));
}

pub learns : (h : Rack) (k : DriverOk h) (key slots id : ℕ) → slots ≡ h.size → key ≡ h.size
    → Allows (Holds key) slots id h.seat.me 1 (λ x. x) (λ x m'. pulled Driver (step slots 1 0 0 none) h.seat.me x m')
learns h k key slots id slots_is key_is =
    let P : ℕ × ℕ → Type 0 = λ z. Allows (Holds z.0) z.1 id h.seat.me 1 (λ x. x) (λ x m'. pulled Driver (step z.1 1 0 0 none) h.seat.me x m') in
    subst P (λ i. (sym key_is i, sym slots_is i)) (rack_pulls Driver h k.rack (WordTie h.size) id 1 (λ ws g f. (f.head, λ n. tie_stays h.size Driver 1 n ws g (omega arith) f)))

pub hears : (h : Rack) (k : DeviceOk h) (key slots id : ℕ) → slots ≡ h.size → key ≡ h.size
    → Allows (Holds key) slots id h.seat.me 0 (λ x. x) (λ x m'. pulled Device (step slots 0 0 0 none) h.seat.me x m')
hears h k key slots id slots_is key_is =
    let P : ℕ × ℕ → Type 0 = λ z. Allows (Holds z.0) z.1 id h.seat.me 0 (λ x. x) (λ x m'. pulled Device (step z.1 0 0 0 none) h.seat.me x m') in
    subst P (λ i. (sym key_is i, sym slots_is i)) (rack_pulls Device h k.rack (WordTie h.size) id 0 (λ ws g f. (f.bell, λ n. tie_stays h.size Device 0 n ws g (omega arith) f)))

module _ (h h₁ : Rack) (d : Desc) (settled : IsSettled d.status) (k : DeviceOk h) (rack : IsRack Device h₁) (same : SameSeat h.seat h₁.seat) (list : placed h₁ ≡ placed h ++ d ∷ []) (pos : 0 < h.bare)
    (put : h₁.put ≡ h.put + 1) (bare : h₁.bare + 1 ≡ h.bare) (left : h₁.left ≡ h.left) (size : h₁.size ≡ h.size) where
  head_shows : (S new : ℕ) (ds : List Desc) (ws : List ℕ) (g : List Event) → new ≡ (length (sent Device g) + length ds) % S → WordTie S ws g → WordTie S (set ws 1 new) (g ++ Sent Device ds ∷ [])
  head_shows S new ds ws g is f = let c = f.count in record {
    count = length-set ws 1 new ∙ f.count;
    bell = get_or-set_other ws 1 0 new 0 (λ e. omega arith) ∙ f.bell ∙ ap (λ (z : List Desc). length z % S) (sym (sent_append Driver g (Sent Device ds ∷ []) ∙ append-nil (sent Driver g)));
    head = get_or-set_same ws 1 new 0 (omega arith) ∙ is ∙ ap (λ (z : ℕ). z % S) (sym (ap length (sent_append Device g (Sent Device ds ∷ []) ∙ ap (λ (z : List Desc). sent Device g ++ z) (append-nil ds)) ∙ length-append (sent Device g) ds));
  }

  pub returns : d.last ≡ true → (key slots id : ℕ) → slots ≡ h₁.size → key ≡ h₁.size
      → Allows (Holds key) slots id h₁.seat.me 1 (λ _. (h₁.first + h₁.put) % h₁.size) (λ _. pushed Device (step slots 1 ((h₁.first + h₁.put) % h₁.size) 0 none) h₁.seat.me ((h₁.first + h₁.put) % h₁.size))
  returns marked key slots id slots_is key_is =
      let new : ℕ = (h₁.first + h₁.put) % h₁.size in
      let word = word₁ h h₁ d settled k rack same list pos put bare left size in
      let t = total₁ h h₁ d settled k rack same list pos put bare left size in
      let frame : IsFrame (placed h₁) = subst IsFrame (sym list) (frame_of (placed h) d k.begun marked settled) in
      let base = rack_pushes Device h₁ rack (WordTie h₁.size) id 1 new (short₁ h h₁ d settled k rack same list pos put bare left size) (omega arith) frame word
      (λ ws g has order f. head_shows h₁.size new (placed h₁) ws g (word ∙ (λ i. (length (same_sent Device (seen_of h₁) g has.1 i) + sym rack.many i) % h₁.size)) f) in
      let P : ℕ × ℕ → Type 0 = λ z. Allows (Holds z.0) z.1 id h₁.seat.me 1 (λ _. new) (λ _. pushed Device (step z.1 1 new 0 none) h₁.seat.me new) in
      subst P (λ i. (sym key_is i, sym slots_is i)) base

pub opens : (S : ℕ) → 8 ≤ S → Holds S (opening (0 ∷ 0 ∷ []) (replicate S None) whole)
opens S le = let z : 0 ≡ 0 % S = sym (mod-eq_of_lt (omega arith)) in starts S (WordTie S) (0 ∷ 0 ∷ []) (omega arith) record { count = refl; bell = z; head = z }

-- a word that is stored as it was
pub tie_same : (S : ℕ) → StaysTied (WordTie S)
tie_same S i ws h f = record { count = length-set ws i (get_or ws i 0) ∙ f.count; bell = same_word ws i 0 ∙ f.bell; head = same_word ws i 1 ∙ f.head }
