use Rattle.std.proofs.Common.{◌≡◌, ℕ, suc, ◌+◌, ◌%◌, ◌∙◌, ap, sym, arith, refl, List, [], ◌∷◌, ◌++◌, length, take, drop, append_assoc, length-append}
use mathlib.Core.Option.{some}
use Rattle.std.specs.Prelude.{Some, None}
use Rattle.std.specs.Option.{unwrap_or}
use Rattle.ifl_desc.specs.declared.desc.Desc.{Desc}
use Rattle.ifl_desc.specs.declared.history.Side.{Side}
use Rattle.ifl_desc.specs.declared.rack.Rack.{Rack}
use Rattle.ifl_desc.specs.Rule.{Slot}
use Rattle.ifl_desc.specs.Rack.{placed}
use Rattle.ifl_desc.proofs.Turning.{same_head}
use Rattle.ifl_desc.proofs.Racks.{unloaded, unload_first, unload_there, unload_next, unload_long, unload_done, take_one}
use Rattle.ifl_desc.proofs.rack.Rack.unload.Goals as goal

pub swap_at-old-requires-clause-count : goal.swap_at-old-requires-clause-count
swap_at-old-requires-clause-count g c = let n = c.loop-at.auto.at-end in
    (sym (ap length c.loop-at.invariant.1 ∙ unload_long g.R.IsSide.side c.args.self.now c.requires.rack c.loop-at.at n), omega arith)

pub swap_at-old-requires-clause-here : goal.swap_at-old-requires-clause-here
swap_at-old-requires-clause-here g c = let r : Side = g.R.IsSide.side in let h : Rack = c.args.self.now in let i = c.loop-at.invariant in let n : ℕ = c.loop-at.at in
    let f = unload_first r h c.requires.rack n c.loop-at-test.true in
    (Some f.0, unload_there r h c.requires.rack n c.loop-at-test.true c.loop-at.self.seat.me.1 i.1 ∙ (λ j. ((sym i.8 j + n) % sym i.9 j, Some f.0) ∷ drop (suc n) c.loop-at.self.seat.me.1))

pub unreachable-requires : goal.unreachable-requires
unreachable-requires g c = let r : Side = g.R.IsSide.side in let h : Rack = c.args.self.now in let i = c.loop-at.invariant in let n : ℕ = c.loop-at.at in
    let f = unload_first r h c.requires.rack n c.loop-at-test.true in
    let here = unload_there r h c.requires.rack n c.loop-at-test.true c.loop-at.self.seat.me.1 i.1 ∙ (λ j. ((sym i.8 j + n) % sym i.9 j, Some f.0) ∷ drop (suc n) c.loop-at.self.seat.me.1) in
    c.in_default.not-Some f.0 (same_head _ _ _ _ (sym c.swap_at-old.ensures.value ∙ here))

pub loop-at-preserved : goal.loop-at-preserved
loop-at-preserved g c =
    let r : Side = g.R.IsSide.side in let h : Rack = c.args.self.now in let k = c.requires.rack in let i = c.loop-at.invariant in let n : ℕ = c.loop-at.at in let lt = c.loop-at-test.true in
    let m : List (ℕ × Slot) = c.loop-at.self.seat.me.1 in
    let s = c.swap_at-old.ensures.seat in
    let d : Desc = c.in-Some.d in
    let f = unload_first r h k n lt in
    let here = unload_there r h k n lt m i.1 ∙ (λ j. ((sym i.8 j + n) % sym i.9 j, Some f.0) ∷ drop (suc n) m) in
    let e : Some f.0 ≡ Some d = same_head _ _ _ _ (sym here ∙ c.in-Some.ensures.value) in
    let same : f.0 ≡ d = ap (λ (o : Slot). unwrap_or o f.0) e in
    let next : suc n ≡ n + 1 = omega arith in
    let old : List Desc = c.loop-at.out.items in
    let before : List Desc = c.args.out.now.items in (
      (s.0 ∙ i.0.0, s.1 ∙ i.0.1, s.2 ∙ i.0.2),
      c.swap_at-old.ensures.slots ∙ (λ j. take n m ++ ((i.8 j + n) % i.9 j, None) ∷ drop (suc n) m) ∙ unload_next r h k n lt m i.1 ∙ ap (unloaded r h k) next,
      c.push_reserved.ensures.items ∙ ap (λ (z : List Desc). z ++ d ∷ []) i.2 ∙ append_assoc before (take n (placed h)) (d ∷ [])
          ∙ ap (λ (z : List Desc). before ++ z) (sym (take_one (placed h) n d (f.1 ∙ ap some same)) ∙ ap (λ (z : ℕ). take z (placed h)) next),
      c.push_reserved.ensures.capacity ∙ i.3,
      ap length c.push_reserved.ensures.items ∙ length-append old (d ∷ []) ∙ (let l = i.4 in omega arith),
      i.5,
      i.6,
      i.7,
      i.8,
      i.9,
    )

pub returns-clause-rack : goal.returns-clause-rack
returns-clause-rack g c =
    let r : Side = g.R.IsSide.side in let h : Rack = c.args.self.now in let k = c.requires.rack in let i = c.loop-at.invariant in
    let all : c.loop-at.at ≡ h.put = let n = c.loop-at.auto.at-end in omega arith in
    let left = i.5 in let bare = i.6 in let put = i.7 in
    unload_done r h k record { seat = c.loop-at.self.seat; size = c.loop-at.self.size; first = c.loop-at.self.first; put = 0; bare = c.loop-at.self.bare + c.loop-at.self.put; left = c.loop-at.self.left }
    i.0 (i.1 ∙ ap (unloaded r h k) all) i.9 i.8 refl (omega arith) left
