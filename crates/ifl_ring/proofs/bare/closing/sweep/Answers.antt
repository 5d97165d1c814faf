use Rattle.std.proofs.Common.{ℕ, ◌≡◌, ◌≢◌, ◌+◌, ◌<◌, ◌≤◌, ⊎_elim, inl, inr, false, [], ◌++◌, length, get_or, append_assoc, length-append, sym, ap, ◌∙◌, arith}
use Rattle.std.proofs.lemmas.List.{get_or-set_other}
use Rattle.std.specs.Mem.Slots.{slots_items, slots_filled}
use lib.ListN.{get_elem?}
use Rattle.ifl_ring.specs.Acts.{item_in}
use Rattle.ifl_ring.proofs.Ending.{items_lying-next, emptied_next, one_item}
use Rattle.ifl_ring.proofs.bare.closing.sweep.Goals as goal

pub loop-k-preserved : goal.loop-k-preserved
loop-k-preserved g c = let v = c.loop-k.invariant in let k : ℕ = c.loop-k.k in let from : ℕ = c.args.from in let le : c.args.from ≤ c.loop-k.k = c.loop-k.auto.k in
    let o = c.take.ensures.others in
    let at = ap (λ z. get_elem? z k) (sym v.5) ∙ c.take.ensures.value in
    let next = items_lying-next from k (slots_items c.args.closed.now.slots) c.take.result le at in
    let items = c.keep_item.ensures.item ∙ ap (λ z. z ++ item_in c.take.result []) v.0 ∙ append_assoc c.args.left.now.items _ _ ∙ ap (λ z. c.args.left.now.items ++ z) (sym next) in
    let one = one_item c.take.result in let few = v.1 in
    let long : length c.keep_item.new.left.items ≡ length c.loop-k.left.items + length (item_in c.take.result []) = ap length c.keep_item.ensures.item ∙ length-append c.loop-k.left.items (item_in c.take.result []) in (
      items,
      omega arith,
      c.keep_item.ensures.room ∙ v.2,
      (λ j l u. ap (λ z. get_or z j false) o.1 ∙ emptied_next from k (slots_filled c.loop-k.closed.slots) v.3 j l u),
      (λ j away. let ne : j ≢ k = ⊎_elim (λ (a : j < c.args.from) (e : j ≡ k). omega arith) (λ (b : c.loop-k.k + 1 ≤ j) (e : j ≡ k). omega arith) away in
          ap (λ z. get_or z j false) o.1 ∙ get_or-set_other (slots_filled c.loop-k.closed.slots) k j false false ne ∙ v.4 j (⊎_elim (λ (a : j < c.args.from). inl a) (λ (b : c.loop-k.k + 1 ≤ j). inr (omega arith)) away)),
      o.0 ∙ v.5,
      o.2 ∙ v.6,
      o.3 ∙ v.7,
    )
