-- The ends after their steps, and where they stand in their laps.
use Rattle.std.proofs.Common.{◌≡◌, ◌≢◌, ℕ, suc, ◌+◌, ◌-◌, ◌*◌, ◌/◌, ◌%◌, ◌<◌, ◌≤◌, true, List, [], ◌∷◌, ◌++◌, length, take, sym, ap, ◌∙◌, subst, arith, append-nil, mod-lt}
use mathlib.Core.Option.{none}
use mathlib.Core.List.{IsPrefix}
use Rattle.std.proofs.lemmas.List.{take-append-le}
use Rattle.atomic_table.specs.Table.{Me, step}
use Rattle.ifl_desc.specs.declared.desc.Desc.{Desc}
use Rattle.ifl_desc.specs.declared.history.Side.TheVariants.{Driver, Device}
use Rattle.ifl_desc.specs.declared.history.Event.{Event}
use Rattle.ifl_desc.specs.declared.history.Event.TheVariants.{Sent, Looked}
use Rattle.ifl_desc.specs.declared.history.View.{View}
use Rattle.ifl_desc.specs.declared.rack.Rack.{Rack}
use Rattle.ifl_desc.specs.History.{sent, known}
use Rattle.ifl_desc.specs.Frames.{IsFrame, IsSettled}
use Rattle.ifl_desc.specs.Rule.{Slot}
use Rattle.ifl_desc.specs.Plays.{distance, valued, pushed_by}
use Rattle.ifl_desc.specs.Calls.{Grew, Learns, LooksForFrame}
use Rattle.ifl_desc.specs.Rack.{IsRack, SameSeat, placed, seen_of, spin}
use Rattle.ifl_desc.specs.Sides.{driver_of, DriverOk, DeviceOk}
use Rattle.ifl_desc.proofs.Steps.{looked_counts, sent_append}
use Rattle.ifl_desc.proofs.AfterSteps.{grew_sent}
use Rattle.ifl_desc.proofs.Looking.{grew_looks}
use Rattle.ifl_desc.proofs.DriverCalls.{learn_count, learn_some}
use Rattle.ifl_desc.proofs.DeviceCalls.{frame_of}
use Rattle.ifl_generation.specs.declared.lap.Lap.{Lap}
use Rattle.ifl_generation.specs.Generation.{frames, made, read, generation, IsAt, reach, up_to, Reads}
use Rattle.ifl_generation.proofs.Entries.{frames_append, frames_one}
use Rattle.ifl_generation.proofs.WordSteps.{as_many}

-- a driver that has counted no more has read no more
pub driver_lap : (S : ℕ) (a b : List Event) (lap : Lap) → IsPrefix a b → known Driver b ≡ known Driver a → known Driver a ≤ length (sent Device a) → IsAt S (read a) lap → IsAt S (read b) lap
driver_lap S a b lap p k le at =
    let more : sent Device b ≡ sent Device a ++ sent Device p.0 = ap (sent Device) (sym p.1) ∙ sent_append Device a p.0 in
    let same : read b ≡ read a = (λ i. frames (take (k i) (more i))) ∙ ap frames (take-append-le (known Driver a) (sent Device a) (sent Device p.0) le) in
    subst (λ (z : ℕ). IsAt S z lap) (sym same) at

-- a device that has returned no more stands where it stood
pub device_lap : (S : ℕ) (a b : List Event) (lap : Lap) → sent Device b ≡ sent Device a → IsAt S (made a) lap → IsAt S (made b) lap
device_lap S a b lap same at = subst (λ (z : ℕ). IsAt S z lap) (ap frames (sym same)) at

pub lap_fits : (S k : ℕ) (lap : Lap) → 0 < S → IsAt S k lap → (lap.entry < S) × (lap.generation < 2)
lap_fits S k lap pos at = (subst (λ (z : ℕ). z < S) (sym at.entry) (mod-lt k pos), subst (λ (z : ℕ). z < 2) (sym at.generation) (mod-lt (suc (k / S)) (omega arith)))

-- a new entry names a slot of the ring
pub slot_less : (slots w x : ℕ) (m' m : Me Slot View) → Reads (step slots w 0 0 none) m x m' → x % 2 ≡ generation slots (read m.0.seen) → x / 65536 < slots
slot_less slots w x m' m told e = (told.new e).3

module _ (h h₁ : Rack) (k : DriverOk h) (m' : Me Slot View) (slots w x : ℕ) (slots_is : slots ≡ h.size) (told : Reads (step slots w 0 0 none) h.seat.me x m') (id : h₁.seat.table_id ≡ h.seat.table_id)
    (me0 : h₁.seat.me.0 ≡ m'.0) (size : h₁.size ≡ h.size) (first : h₁.first ≡ h.first) (put : h₁.put ≡ h.put) (bare : h₁.bare ≡ h.bare) where
  es : seen_of h₁ ≡ m'.0.seen
  es = ap (λ (z : View). z.seen) me0

  -- the word bears the other generation
  module _ (ne : x % 2 ≢ generation slots (read (seen_of h))) (me1 : h₁.seat.me.1 ≡ m'.1) (left : h₁.left ≡ h.left) where
    stays : DriverOk h₁ × Learns (driver_of h) 0 (driver_of h₁) × Grew Driver (seen_of h) (seen_of h₁) (Looked Driver 0)
    stays = learn_some h h₁ k m' slots 0 (Looked Driver 0) (looked_counts Driver 0) slots_is (told.old ne).0 id me0 me1 size first put bare (omega arith)

    pub stays_ok : DriverOk h₁
    stays_ok = stays.0

    pub stays_lap : read (seen_of h₁) ≡ read (seen_of h)
    stays_lap = ap read es ∙ (told.old ne).1

    pub no_frame : LooksForFrame (driver_of h) 0 (driver_of h₁)
    no_frame = record {
      learns = stays.1;
      looked = let z = grew_looks Driver (seen_of h) (seen_of h₁) (Looked Driver 0) stays.2 in omega arith;
      none = λ _. ap (known Driver) es ∙ (told.old ne).2 ∙ ap (λ (z : List Event). length (sent Device z)) (sym es);
    }

  -- the word bears the generation
  module _ (e : x % 2 ≡ generation slots (read (seen_of h))) where
    abbrev n : ℕ
    n = reach slots (known Driver (seen_of h)) x

    -- as code computes it
    pub reach_code : (((x / 65536) + 1) + (h.size - (((h.first + h.put) + h.bare) + h.left) % h.size)) % h.size ≡ n
    reach_code = learn_count h k (x / 65536 + 1) ∙ (λ i. distance (sym slots_is i) (known Driver (seen_of h)) ((let y : ℕ = x / 65536 in let g : y + 1 ≡ suc y = omega arith in g) i))

    module _ (me1 : h₁.seat.me.1 ≡ spin n m'.1) (left : h₁.left ≡ h.left + n) where
      reads : DriverOk h₁ × Learns (driver_of h) n (driver_of h₁) × Grew Driver (seen_of h) (seen_of h₁) (Looked Driver n)
      reads = learn_some h h₁ k m' slots n (Looked Driver n) (looked_counts Driver n) slots_is (told.new e).0 id me0 me1 size first put bare left

      pub reads_ok : DriverOk h₁
      reads_ok = reads.0

      pub reads_lap : read (seen_of h₁) ≡ suc (read (seen_of h))
      reads_lap = ap read es ∙ (told.new e).2

      pub frame_read : LooksForFrame (driver_of h) n (driver_of h₁)
      frame_read = let pos = (told.new e).1 in record {
        learns = reads.1;
        looked = let z = grew_looks Driver (seen_of h) (seen_of h₁) (Looked Driver n) reads.2 in omega arith;
        none = λ z. absurd (omega arith);
      }

-- a frame more is returned
pub returned_lap : (h h₁ : Rack) (d : Desc) (settled : IsSettled d.status) (k : DeviceOk h) (rack : IsRack Device h₁) (same : SameSeat h.seat h₁.seat) (list : placed h₁ ≡ placed h ++ d ∷ []) (pos : 0 < h.bare)
    (put : h₁.put ≡ h.put + 1) (bare : h₁.bare + 1 ≡ h.bare) (left : h₁.left ≡ h.left) (size : h₁.size ≡ h.size) → d.last ≡ true → (i x : ℕ)
    → x ≡ generation h₁.size (made (seen_of h₁)) + 65536 * (((h₁.first + h₁.put) - 1) % h₁.size) → (h' : Rack) (slots : ℕ) → slots ≡ h₁.size
    → pushed_by up_to Device (step slots i x 0 none) h₁.seat.me x h'.seat.me → made (seen_of h') ≡ suc (made (seen_of h₁))
returned_lap h h₁ d settled k rack same list pos put bare left size marked i x x_is h' slots slots_is told =
    let frame : IsFrame (placed h₁) = subst IsFrame (sym list) (frame_of (placed h) d k.begun marked settled) in
    let told' : pushed_by up_to Device (step h₁.size i x 0 none) h₁.seat.me x h'.seat.me = subst (λ (z : ℕ). pushed_by up_to Device (step z i x 0 none) h₁.seat.me x h'.seat.me) slots_is told in
    let many = as_many h h₁ d settled k rack same list pos put bare left size i x x_is in
    let w : Grew Device (seen_of h₁) (seen_of h') (Sent Device (placed h₁)) = subst (λ (z : ℕ). Grew Device (seen_of h₁) (seen_of h') (Sent Device (valued (take z h₁.seat.me.1)))) many told'.1 in
    let s : sent Device (seen_of h') ≡ sent Device (seen_of h₁) ++ placed h₁ = grew_sent Device (seen_of h₁) (seen_of h') (Sent Device (placed h₁)) w ∙ ap (λ (z : List Desc). sent Device (seen_of h₁) ++ z) (append-nil (placed h₁)) in
    ap frames s ∙ frames_append (sent Device (seen_of h₁)) (placed h₁) ∙ (let one = frames_one (placed h₁) frame in omega arith)
