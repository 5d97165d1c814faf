use Rattle.std.proofs.Common.{◌≡◌, ◌++◌, [], sym, ap, ◌∙◌}
use Rattle.std.proofs.lemmas.List.{append-nil}
use Rattle.ifl_mbuf.specs.Trim.{only_first}
use Rattle.ifl_mbuf.proofs.Trims.{only_first_none}
use Rattle.ifl_mbuf.proofs.chain.Chain.keep_first.Goals as goal
use Rattle.ifl_mbuf.proofs.chain.Chain.keep_first.Goals.{else-loop-left-test, then-loop-left-test+in_default}

pub returns-clause-kept : goal.returns-clause-kept
returns-clause-kept c =
    let l = c.loop-left in
    let none : only_first l.left l.self ≡ [] = elim c.loop-left-test.branch [
      | else-loop-left-test w ↦ only_first_none l.left l.self w.loop-left-test.false
      | then-loop-left-test+in_default w ↦ ap (only_first l.left) w.in_default.ensures.0
    ] in
    c.replace.ensures.after ∙ sym (l.invariant.first ∙ (ap (λ ss. l.kept ++ ss) none ∙ append-nil l.kept))
