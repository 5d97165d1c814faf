use Rattle.std.proofs.Common.{◌≡◌, ◌++◌, ◌∷◌, [], List, sym, ap, subst, ◌∙◌}
use Rattle.ifl_mbuf.specs.Segment.{Segment}
use Rattle.ifl_mbuf.specs.Collapse.{packed, collapsed}
use Rattle.ifl_mbuf.proofs.Collapsed.{packed_over, IsCollapsed, collapsed_is, collapsed_end}
use Rattle.ifl_mbuf.proofs.chain.Chain.collapse.Goals as goal
use Rattle.ifl_mbuf.proofs.chain.Chain.collapse.Goals.{else-loop-surplus-test, then-loop-surplus-test+in_default-pop_front}

pub returns : goal.returns
returns c =
    let l = c.loop-surplus in let old = c.args.self.now in let new : List Segment = c.cat.new.self in let rest : List Segment = c.loop-surplus-test.self in
    let over : packed l.surplus l.cursor l.self ≡ (l.cursor ∷ rest, []) = elim c.loop-surplus-test.branch [
      | else-loop-surplus-test w ↦ packed_over l.surplus l.cursor l.self w.loop-surplus-test.false ∙ ap (λ (ss : List Segment). (l.cursor ∷ ss, [])) (sym w.self-is)
      | then-loop-surplus-test+in_default-pop_front w ↦
          let none = w.in_default-pop_front.ensures in
          ap (packed l.surplus l.cursor) none.0 ∙ ap (λ (ss : List Segment). (l.cursor ∷ ss, [])) (sym (w.self-is ∙ none.1))
    ] in
    let whole : new ≡ (l.done ++ l.cursor ∷ []) ++ rest = c.cat.ensures ∙ (λ i. c.push-2.ensures i ++ c.replace-2.ensures.value i) in
    let exact : collapsed c.args.max old ≡ (new, l.freed) = collapsed_end c.args.max old new l.self rest l.done l.cursor l.freed l.surplus l.invariant.exact over whole in
    let is : IsCollapsed c.args.max old (new, l.freed) = subst (IsCollapsed c.args.max old) exact (collapsed_is c.args.max old) in
    record {
      exact = sym exact;
      bytes = is.bytes;
      clusters = is.clusters;
      enough = is.enough;
      tight = is.tight;
    }
