use Rattle.std.proofs.Common.{◌≡◌, ℕ, ◌≤◌, List, sum, ap, sym, ◌∙◌, subst}
use Rattle.ifl_txq.proofs.Tables.{new_log}
use Rattle.ifl_txq.proofs.log.Log.new.Goals as goal

pub invariant_of-result : goal.invariant_of-result
invariant_of-result c =
    let cs : c.in_ok-counts.counts.items ≡ c.args.counts.now = c.in_ok-counts.ensures.items_if_clones_equal (λ x y q. q) in
    let ns : c.total-total.result ≡ sum c.in_ok-counts.counts.items = c.total-total.ensures ∙ ap sum (sym cs) in let f = c.requires.all in
    new_log c.in_ok-counts.counts.items c.in_ok-places.places.items c.in_ok-lines.lines.items c.in_ok-room.room.items _ _ c.total-total.result (c.in_ok-places.ensures.items_if_clones_equal (λ y q. q)) c.in_ok-lines.ensures.items c.in_ok-room.ensures.items ns
    (subst (λ (z : List ℕ). sum z ≤ 1000000) (sym cs) f) c.in_ok-lines.ensures.capacity c.in_ok-room.ensures.capacity
