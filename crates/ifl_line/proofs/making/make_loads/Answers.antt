use Rattle.std.proofs.Common.{◌≡◌, ◌∷◌, ◌++◌, ◌+◌, [], List, length, refl, sym, subst, ap, ◌∙◌, append_assoc, length-append, arith}
use Rattle.std.specs.Vec.Iter.{into_iter_items}
use Rattle.ifl_pcap.specs.declared.capture.Capture.{Capture}
use Rattle.ifl_line.specs.Loads.{AreLoads, loaded}
use Rattle.ifl_line.specs.Works.{AreFew}
use Rattle.ifl_line.proofs.Loading.{loaded-append, loads_more}
use Rattle.ifl_line.proofs.making.make_loads.Goals as goal

pub loop-capture-init : goal.loop-capture-init
loop-capture-init c = let gives = c.into_iter-capture-iterator.ensures.into_iter_gives in
    let all : into_iter_items c.into_iter-capture-iterator.result ≡ c.args.captures.items = gives.0 in let many = gives.1 in let long = ap length all in let few = c.requires.captures.0 in
    let none : c.in_ok-loads.loads.items ≡ [] = c.in_ok-loads.ensures.items in let empty = ap length none in let len = c.in_ok-loads.ensures.len in let exact = c.in_ok-loads.ensures.exact in let counted = c.len.ensures in (
      refl,
      omega arith,
      subst AreFew (sym all) c.requires.captures.1,
      subst (AreLoads 0) (sym none) tt,
      ap loaded none,
      omega arith,
      omega arith,
      omega arith,
    )

pub loop-capture-preserved : goal.loop-capture-preserved
loop-capture-preserved c = let at = c.loop-capture in let i = at.invariant in let x = c.in-Some.capture in let rest : List Capture = into_iter_items c.next.new.self in
    let steps : into_iter_items at.capture-iterator ≡ x ∷ rest = c.in-Some.ensures.steps.0 in
    let was = i.1 in let gone = c.in-Some.ensures.steps.1 in let short = ap length steps in let made = c.in_ok-load.ensures in let y = c.in_ok-load.load in let push = c.push_reserved.ensures in
    let all : c.push_reserved.new.self.items ≡ at.loads.items ++ y ∷ [] = push.items in let longer = ap length all ∙ length-append at.loads.items (y ∷ []) in
    let count = i.5 in let within = i.6 in let room = i.7 in let len = push.len in let kept = push.capacity in
    let named : y.sender.number ≡ 0 + length at.loads.items = (let e = made.named.1 in omega arith) in (
      append_assoc at.yielded (x ∷ []) _ ∙ rw (← steps) at.invariant.0,
      omega arith,
      (let few : AreFew (x ∷ rest) = subst AreFew steps i.2 in few.1),
      subst (AreLoads 0) (sym all) (loads_more 0 at.loads.items (y ∷ []) i.3 (made.ready, named, tt)),
      ap loaded all ∙ loaded-append at.loads.items (y ∷ []) ∙ (λ k. i.4 k ++ made.named.0 k ∷ []),
      omega arith,
      omega arith,
      omega arith,
    )
