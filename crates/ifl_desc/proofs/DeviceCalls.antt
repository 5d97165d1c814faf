-- The device's end after each of its calls.
use Rattle.std.proofs.Common.{◌≡◌, ℕ, ◌+◌, ◌-◌, ◌%◌, ◌<◌, ◌≤◌, Bool, true, false, cond, List, [], ◌∷◌, ◌++◌, length, sym, ap, ◌∙◌, subst, arith, append-nil, length-append}
use mathlib.Core.Option.{none}
use Rattle.atomic_table.specs.Table.{Me, Step, step}
use Rattle.ifl_desc.specs.declared.desc.Desc.{Desc}
use Rattle.ifl_desc.specs.declared.history.Side.TheVariants.{Driver, Device}
use Rattle.ifl_desc.specs.declared.history.Event.{Event}
use Rattle.ifl_desc.specs.declared.history.Event.TheVariants.{Sent, Looked}
use Rattle.ifl_desc.specs.declared.history.View.{View}
use Rattle.ifl_desc.specs.declared.rack.Rack.{Rack}
use Rattle.ifl_desc.specs.History.{sent, known}
use Rattle.ifl_desc.specs.Frames.{IsBegun, IsFrame, IsSettled}
use Rattle.ifl_desc.specs.Rule.{Slot, laid, IsLawful}
use Rattle.ifl_desc.specs.Plays.{distance, further, pushed_by, pushed, pulled}
use Rattle.ifl_desc.specs.Ends.{DeviceSees, IsDevice, completed}
use Rattle.ifl_desc.specs.Calls.{Grew, Fetches, Completes}
use Rattle.ifl_desc.specs.Rack.{IsRack, SameSeat, placed, taken, seen_of, spin}
use Rattle.ifl_desc.proofs.Rows.{slot_at}
use Rattle.ifl_desc.proofs.OwnSteps.{distance_is}
use Rattle.ifl_desc.proofs.AfterSteps.{push_done_by, pull_done, grew_sent, grew_known, kept_sent, more_known}
use Rattle.ifl_desc.specs.Sides.{device_of, DeviceOk}
use Rattle.ifl_desc.proofs.DriverCalls.{last_is}

pub device_lawful : (h : Rack) → DeviceOk h → IsDevice (device_of h)
device_lawful h k = let n = k.rack.many in let l = k.rack.left in let t = k.total in record {
  lawful = subst (λ (z : ℕ). IsLawful z (seen_of h)) (sym k.rack.size) k.lawful;
  begun = k.begun;
  after = omega arith;
  within = omega arith;
}

pub known_word : (h : Rack) (k : DeviceOk h) → (((h.first + h.put) + h.bare) + h.left) % h.size ≡ known Device (seen_of h) % h.size
known_word h k = let t = k.total in last_is Device h k.rack ∙ ap (λ (z : ℕ). z % h.size) (let g : length (sent Device (seen_of h)) + ((h.put + h.bare) + h.left) ≡ known Device (seen_of h) = omega arith in g)

pub hear_count : (h : Rack) (k : DeviceOk h) (x : ℕ) → (x + (h.size - (((h.first + h.put) + h.bare) + h.left) % h.size)) % h.size ≡ distance h.size (known Device (seen_of h)) x
hear_count h k x = ap (λ (z : ℕ). (x + (h.size - z)) % h.size) (known_word h k)

pub hear_done : (h h' : Rack) (k : DeviceOk h) (m' : Me Slot View) (slots x n : ℕ) → slots ≡ h.size → n ≡ distance h.size (known Device (seen_of h)) x → pulled Device (step slots 0 0 0 none) h.seat.me x m'
    → h'.seat.table_id ≡ h.seat.table_id → h'.seat.me.0 ≡ m'.0 → h'.seat.me.1 ≡ spin n m'.1 → h'.size ≡ h.size → h'.first ≡ h.first → h'.put ≡ h.put → h'.bare ≡ h.bare → h'.left ≡ h.left + n
    → DeviceOk h' × Fetches (device_of h) n (device_of h')
hear_done h h' k m' slots x n slots_is n_is told id me0 me1 size first put bare left =
    let told' : pulled Device (step h.size 0 0 0 none) h.seat.me x m' = subst (λ (z : ℕ). pulled Device (step z 0 0 0 none) h.seat.me x m') slots_is told in
    let a : List Event = seen_of h in
    let seen' : List Event = m'.0.seen in
    let t = k.total in let l = k.rack.left in
    let o = told'.2 in
    let w0 : Grew Device a seen' (Looked Device n) = subst (λ (z : ℕ). Grew Device a seen' (Looked Device z)) (sym n_is) told'.1 in
    let kn : known Device seen' ≡ known Device a + n = more_known Device a seen' n w0 in
    let sn : length (sent Device seen') ≡ length (sent Device a) = ap length (kept_sent Device a seen' n w0) in
    let o0 = o.told in let o1 = o.done in let o2 = o.heard in let o3 = o.within in let all = told'.4 in
    let fits : (h'.put + h'.bare) + h'.left ≤ h.size = omega arith in
    let turn : (xs : List Slot) → laid h.size (known Device a) xs ≡ laid h.size (length (sent Device a) + ((h.put + h.bare) + h.left)) xs =
    λ xs. ap (λ (z : ℕ). laid h.size z xs) (let g : known Device a ≡ length (sent Device a) + ((h.put + h.bare) + h.left) = omega arith in g) in
    let d = pull_done Device h k.rack 0 x turn m' told' h' me0 (me1 ∙ ap (λ (z : ℕ). spin z m'.1) n_is) (ap (λ z. z.slots) id ∙ k.rack.size) size first put bare (left ∙ ap (λ (z : ℕ). h.left + z) n_is) fits in
    let es : seen_of h' ≡ seen' = ap (λ (z : View). z.seen) me0 in
    let w : Grew Device a (seen_of h') (Looked Device n) = subst (λ (z : List Event). Grew Device a z (Looked Device n)) (sym es) w0 in
    let kn' : known Device (seen_of h') ≡ known Device a + n = more_known Device a (seen_of h') n w in
    let sn' : length (sent Device (seen_of h')) ≡ length (sent Device a) = ap length (kept_sent Device a (seen_of h') n w) in
    let fetched : taken Device h' ≡ taken Device h = omega arith in (
      record {
        rack = d.0;
        total = omega arith;
        lawful = subst (λ (z : ℕ × List Event). IsLawful z.0 z.1) (λ i. (sym size i, sym es i)) told'.3;
        begun = subst IsBegun (sym d.1) k.begun;
      },
      (w, (λ i. record { ring = id i; seen = seen_of h'; fetched = fetched i; ready = d.1 i }), (λ i. known Device (es i)) ∙ all ∙ (λ i. length (sent Driver (sym es i)))),
    )

-- completing: first the entry is placed
begun_more : (p : List Desc) (d : Desc) → IsBegun p → d.last ≡ false → IsSettled d.status → IsBegun (p ++ d ∷ [])
begun_more [] d u e s = (e, s, tt)
begun_more (x ∷ p) d u e s = (u.0, u.1, begun_more p d u.2 e s)

pub frame_of : (p : List Desc) (d : Desc) → IsBegun p → d.last ≡ true → IsSettled d.status → IsFrame (p ++ d ∷ [])
frame_of [] d u e s = (e, s)
frame_of (x ∷ []) d u e s = (u.0, u.1, (e, s))
frame_of (x ∷ (y ∷ p)) d u e s = (u.0, u.1, frame_of (y ∷ p) d u.2 e s)

module _ (h h₁ : Rack) (d : Desc) (settled : IsSettled d.status) (k : DeviceOk h) (rack : IsRack Device h₁) (same : SameSeat h.seat h₁.seat) (list : placed h₁ ≡ placed h ++ d ∷ []) (pos : 0 < h.bare)
    (put : h₁.put ≡ h.put + 1) (bare : h₁.bare + 1 ≡ h.bare) (left : h₁.left ≡ h.left) (size : h₁.size ≡ h.size) where
  e₁ : seen_of h₁ ≡ seen_of h
  e₁ = ap (λ (z : View). z.seen) same.2

  pub total₁ : ((h₁.put + h₁.bare) + h₁.left) + length (sent Device (seen_of h₁)) ≡ known Device (seen_of h₁)
  total₁ = let t = k.total in let a = ap (λ (z : List Event). length (sent Device z)) e₁ in let b = ap (known Device) e₁ in omega arith

  pub place_ok : d.last ≡ false → DeviceOk h₁
  place_ok open_on = record {
    rack = rack;
    total = total₁;
    lawful = subst (λ (z : ℕ × List Event). IsLawful z.0 z.1) (λ i. (sym size i, sym e₁ i)) k.lawful;
    begun = subst IsBegun (sym list) (begun_more (placed h) d k.begun open_on settled);
  }

  pub short₁ : h₁.put < h₁.size
  short₁ = let t = total₁ in let o = rack.order in let o0 = o.told in let o1 = o.done in let o2 = o.heard in let o3 = o.within in omega arith

  pub word₁ : (h₁.first + h₁.put) % h₁.size ≡ (length (sent Device (seen_of h₁)) + h₁.put) % h₁.size
  word₁ = slot_at h₁.size (length (sent Device (seen_of h₁))) h₁.first h₁.put rack.first

  -- the frame was sent by a store of `new` into the word i
  pub return_done_by : (by : Step Slot → List Event → ℕ) (i new : ℕ) → by (step h₁.size i new 0 none) (seen_of h₁) ≡ h₁.put → d.last ≡ true → (h' : Rack) (slots : ℕ) → slots ≡ h₁.size → pushed_by by Device (step slots i new 0 none) h₁.seat.me new h'.seat.me
      → h'.seat.table_id ≡ h₁.seat.table_id → h'.size ≡ h₁.size → h'.first ≡ (h₁.first + h₁.put) % h₁.size → h'.put ≡ 0 → h'.bare ≡ h₁.bare → h'.left ≡ h₁.left → DeviceOk h' × Completes (device_of h) d (device_of h')
  return_done_by by i new many marked h' slots slots_is told id size' first' put' bare' left' =
      let told' : pushed_by by Device (step h₁.size i new 0 none) h₁.seat.me new h'.seat.me = subst (λ (z : ℕ). pushed_by by Device (step z i new 0 none) h₁.seat.me new h'.seat.me) slots_is told in
      let q = push_done_by Device h₁ rack by i new new many h' told' (ap (λ z. z.slots) id ∙ rack.size) size' (first' ∙ word₁) put' bare' left' in
      let ev : Event = Sent Device (placed h₁) in
      let seen' : List Event = seen_of h' in
      let n = rack.many in let l = rack.left in let t = total₁ in
      let a' : length (sent Device seen') ≡ length (sent Device (seen_of h₁)) + length (placed h₁) = ap length (grew_sent Device (seen_of h₁) seen' ev q.2 ∙ ap (λ (z : List Desc). sent Device (seen_of h₁) ++ z) (append-nil (placed h₁))) ∙ length-append (sent Device (seen_of h₁)) (placed h₁) in
      let kn : known Device seen' ≡ known Device (seen_of h₁) + 0 = grew_known Device (seen_of h₁) seen' ev q.2 in
      let kn0 : known Device (seen_of h₁) ≡ known Device (seen_of h) = ap (known Device) e₁ in
      let fetched : taken Device h' ≡ taken Device h = omega arith in
      let w : Grew Device (seen_of h) seen' (Sent Device (placed h ++ d ∷ [])) = subst (λ (z : List Event × List Desc). Grew Device z.0 seen' (Sent Device z.1)) (λ i. (e₁ i, list i)) q.2 in
      let C : Bool → Type 0 = λ b. cond b (Grew Device (seen_of h) seen' (Sent Device (placed h ++ d ∷ [])) × (device_of h' ≡ record { ring = h.seat.table_id; seen = seen'; fetched = taken Device h; ready = [] })) (device_of h' ≡ record { ring = h.seat.table_id; seen = seen_of h; fetched = taken Device h; ready = placed h ++ d ∷ [] }) in (
        record {
          rack = q.0;
          total = omega arith;
          lawful = subst (λ (z : ℕ). IsLawful z seen') (sym size') told'.3;
          begun = subst IsBegun (sym q.1) tt;
        },
        subst C (sym marked) (w, (λ i. record { ring = (id ∙ same.0) i; seen = seen'; fetched = fetched i; ready = q.1 i })),
      )

  pub return_done : d.last ≡ true → (h' : Rack) (slots : ℕ) → slots ≡ h₁.size → pushed Device (step slots 1 ((h₁.first + h₁.put) % h₁.size) 0 none) h₁.seat.me ((h₁.first + h₁.put) % h₁.size) h'.seat.me
      → h'.seat.table_id ≡ h₁.seat.table_id → h'.size ≡ h₁.size → h'.first ≡ (h₁.first + h₁.put) % h₁.size → h'.put ≡ 0 → h'.bare ≡ h₁.bare → h'.left ≡ h₁.left → DeviceOk h' × Completes (device_of h) d (device_of h')
  return_done = let a : ℕ = length (sent Device (seen_of h₁)) in
      return_done_by (further Device) 1 ((h₁.first + h₁.put) % h₁.size) (ap (distance h₁.size a) word₁ ∙ distance_is h₁.size a h₁.put rack.some short₁)

pub room_of_device : (h : Rack) → DeviceOk h → (v : DeviceSees) → device_of h ≡ v → completed v < v.fetched → 0 < h.bare
room_of_device h k v e r = let r' : completed (device_of h) < taken Device h = subst (λ (z : DeviceSees). completed z < z.fetched) (sym e) r in let n = k.rack.many in let l = k.rack.left in let t = k.total in omega arith
