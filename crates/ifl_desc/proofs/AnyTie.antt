-- The steps that all rings share keep the rule, whatever their words show of the history.
use Rattle.std.proofs.Common.{◌≡◌, ℕ, ◌+◌, List, [], ◌++◌, length, sym, ap, ◌∙◌, subst, arith, append-nil}
use mathlib.Core.Option.{none}
use mathlib.Core.List.{IsPrefix}
use Rattle.atomic_table.specs.Table.{step, Allows, Splits, Joins}
use Rattle.ifl_desc.specs.declared.history.Side.{Side}
use Rattle.ifl_desc.specs.declared.history.Side.TheVariants.{Driver, Device}
use Rattle.ifl_desc.specs.declared.history.Event.{Event}
use Rattle.ifl_desc.specs.declared.history.View.{View}
use Rattle.ifl_desc.specs.declared.rack.Rack.{Rack}
use Rattle.ifl_desc.specs.History.{sent, known}
use Rattle.ifl_desc.specs.Rule.{Slot, RingState, laid, view, StaysTied, Tied}
use Rattle.ifl_desc.specs.Plays.{Mine, filled, saw, caught, note, hearing, whole, full, retired, gathered, closing}
use Rattle.ifl_desc.specs.Rack.{IsRack, placed, ahead, row, seen_of}
use Rattle.ifl_desc.proofs.Rows.{laid_length}
use Rattle.ifl_desc.proofs.Racks.{counted}
use Rattle.ifl_desc.proofs.Beginning.{fills, parts, notes, joins, sees, catches}
use Rattle.ifl_desc.proofs.Ending.{retires, ends, gathers}

module _ (tie : ℕ → List ℕ → List Event → Type 0) where
  abbrev Holds : ℕ → RingState → Type 0
  Holds S = Tied S (tie S)

  -- the first step takes every slot
  pub fills_all : (S key slots id : ℕ) (me : Mine) → StaysTied (tie S) → key ≡ S → slots ≡ S → me ≡ (whole, []) → Allows (Holds key) slots id me 0 (λ n. n) (filled (step slots 0 0 0 none) me)
  fills_all S key slots id me stays key_is slots_is me_is =
      let P : ℕ × ℕ × Mine → Type 0 = λ z. Allows (Holds z.0) z.1 id z.2 0 (λ n. n) (filled (step z.1 0 0 0 none) z.2) in
      subst P (λ i. (sym key_is i, sym slots_is i, sym me_is i)) (fills S (tie S) id 0 (stays 0))

  pub parts_all : (key id : ℕ) (v : View) → v ≡ full → Splits (Holds key) id v (view Driver []) (view Device [])
  parts_all key id v is = subst (λ (z : View). Splits (Holds key) id z (view Driver []) (view Device [])) (sym is) (parts key (tie key) id)

  pub notes_of : (key id : ℕ) (r : Side) (v : View) → v ≡ view r v.seen → Splits (Holds key) id v v (note v.seen)
  notes_of key id r v is = subst (λ (z : View). Splits (Holds key) id z z (note v.seen)) (sym is) (notes key (tie key) id r v.seen)

  pub joins_of : (key id other : ℕ) (v w : View) → w ≡ note w.seen → Joins (Holds key) id v other w (hearing v w) (note [])
  joins_of key id other v w is = subst (λ (z : View). Joins (Holds key) id v other z (hearing v z) (note [])) (sym is) (joins key (tie key) id v other w.seen)

  pub sees_of : (S key slots id : ℕ) (r : Side) (me : Mine) (h g : List Event) → StaysTied (tie S) → key ≡ S → slots ≡ S → me.0 ≡ hearing (view r h) (note g) → Allows (Holds key) slots id me 0 (λ n. n) (saw r (step slots 0 0 0 none) me)
  sees_of S key slots id r me h g stays key_is slots_is is =
      let P : ℕ × ℕ × View → Type 0 = λ z. Allows (Holds z.0) z.1 id (z.2, me.1) 0 (λ n. n) (saw r (step z.1 0 0 0 none) (z.2, me.1)) in
      subst P (λ i. (sym key_is i, sym slots_is i, sym is i)) (sees S (tie S) id 0 r h g me.1 (stays 0))

  pub catches_of : (S key slots id : ℕ) (r : Side) (me : Mine) (h g : List Event) → StaysTied (tie S) → IsPrefix h g → key ≡ S → slots ≡ S → me.0 ≡ hearing (view r h) (note g)
      → Allows (Holds key) slots id me 0 (λ n. n) (caught r (step slots 0 0 0 none) me)
  catches_of S key slots id r me h g stays later key_is slots_is is =
      let P : ℕ × ℕ × View → Type 0 = λ z. Allows (Holds z.0) z.1 id (z.2, me.1) 0 (λ n. n) (caught r (step z.1 0 0 0 none) (z.2, me.1)) in
      subst P (λ i. (sym key_is i, sym slots_is i, sym is i)) (catches S (tie S) id 0 r h g me.1 later (stays 0))

  -- the device gives back all slots that it holds
  pub retires_of : (v : Rack) (k : IsRack Device v) (key slots id : ℕ) → StaysTied (tie v.size) → ((v.put + v.bare) + v.left) + length (sent Device (seen_of v)) ≡ known Device (seen_of v) → slots ≡ v.size → key ≡ v.size
      → Allows (Holds key) slots id v.seat.me 0 (λ n. n) (retired (step slots 0 0 0 none) v.seat.me)
  retires_of v k key slots id stays total slots_is key_is =
      let a : ℕ = length (sent Device (seen_of v)) in
      let xs : List Slot = row (placed v) v.bare (ahead Device (seen_of v) v.left) in
      let many : length xs ≡ (v.put + v.bare) + v.left = sym (laid_length v.size a xs) ∙ ap length (sym k.rack) ∙ sym (counted Device v k) in
      let me : v.seat.me ≡ (view Device (seen_of v), laid v.size a xs ++ []) = λ i. (k.role i, (k.rack ∙ sym (append-nil (laid v.size a xs))) i) in
      let P : ℕ × ℕ × Mine → Type 0 = λ z. Allows (Holds z.0) z.1 id z.2 0 (λ n. n) (retired (step z.1 0 0 0 none) z.2) in
      subst P (λ i. (sym key_is i, sym slots_is i, sym me i)) (retires v.size (tie v.size) id 0 (seen_of v) xs (omega arith) (stays 0))

  -- its seat is joined to the driver's
  pub unites_of : (key id other : ℕ) (d v : View) → d ≡ view Driver d.seen → v ≡ view Device v.seen → Joins (Holds key) id d other v (closing d v) (note [])
  unites_of key id other d v d_is v_is = subst (λ (z : View × View). Joins (Holds key) id z.0 other z.1 (closing z.0 z.1) (note [])) (λ i. (sym d_is i, sym v_is i)) (ends key (tie key) id d.seen other v.seen)

  -- and it looks once more
  pub gathers_of : (S key slots id : ℕ) (me : Mine) (d v : View) → StaysTied (tie S) → key ≡ S → slots ≡ S → d ≡ view Driver d.seen → v ≡ view Device v.seen → me.0 ≡ closing d v
      → Allows (Holds key) slots id me 0 (λ n. n) (gathered (step slots 0 0 0 none) me)
  gathers_of S key slots id me d v stays key_is slots_is d_is v_is is =
      let P : ℕ × ℕ × View → Type 0 = λ z. Allows (Holds z.0) z.1 id (z.2, me.1) 0 (λ n. n) (gathered (step z.1 0 0 0 none) (z.2, me.1)) in
      let role : closing (view Driver d.seen) (view Device v.seen) ≡ me.0 = (λ i. closing (sym d_is i) (sym v_is i)) ∙ sym is in
      subst P (λ i. (sym key_is i, sym slots_is i, role i)) (gathers S (tie S) id 0 d.seen v.seen me.1 (stays 0))
