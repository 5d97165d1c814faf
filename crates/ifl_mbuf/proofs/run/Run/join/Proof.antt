-- `join` writes the last node's link. Assumes `Logic`.
use Rattle.std.proofs.Common.{◌≡◌, ◌<◌, List, [], ◌∷◌, ◌++◌, length, refl, sym, ap, subst, ◌∙◌}
use mir.Raw.{raw as bare}
use mir.Val.{Val}
use base.Logic.{SProp, emp, never, fst∗}
use prog.Wp.{WpFn}
use contract.Monad.{fact, fact_i}
use contract.Running.{tables}
use types.Logic.{sem}
use types.Kit.{‵, raw, ◌⊛◌, prop, at_ret, ◌$◌, ◌∵◌, !, qed, by, move, keep, split, fsplit, fjoin, regoal, rewrite, use0, use1, use2}
use types.Part.{agg, sub, whole, store_in}
use types.Run.{stop, fld, of_opd, no_more, and_then, first, blocks, exec, returns, enter, assigns_last}
use types.ByLocal.{alloc_all, pass_all, free_all, look_at, get, get_in, through, sets, env}
use denote.RattleType.{owns}
use denote.Memory.{lone}
use denote.RawPtr.{Ptr, block_ptr, null_ptr, in_a_block}
use denote.Signature.{types_at, plain}
use denote.Steps.{nothing, heard}
use denote.Triple.Entry.{alive}
use denote.Triple.Walked.{Stays, stay_dropped, walk_of}
use Rattle.core.proofs.alloc.Calls.{Goes-blank}
use Rattle.core.proofs.alloc.Shapes.{after}
use Rattle.std_alloc.specs.Box.Ownership.{box_owns}
use Rattle.std.proofs.raw_atomic.Walks.{proved_at, leaves}
use Rattle.std.specs.contracts.impls.GlobalAllocator.TheImpl.{ghosts}
use Rattle.ifl_mbuf.proofs.RunValues.{run_val, run_good, run_in, run_out}
use Rattle.ifl_mbuf.proofs.PlaceSteps.{word_typed}
use Rattle.ifl_mbuf.proofs.NodeSteps.{R, node_out, node_in, led, led_is}
use Rattle.ifl_mbuf.proofs.Linked.{split_first, split_last, last_is, joined, bodies_joined}
use Rattle.ifl_mbuf.proofs.Rows.{row_cut, row_joined}
use Rattle.ifl_mbuf.specs.Nodes.{Placed, IsLinked, bodies, nodes_own}
use Rattle.ifl_mbuf.specs.contracts.run.Run as run
use Rattle.ifl_mbuf.specs.declared.run.Run.{Run}
use Rattle.ifl_mbuf.specs.contracts.run.Run.join.{ended, clauses}
use Rattle.ifl_mbuf.specs.contracts.run.Run.join.Key.{name as #self}
use Rattle.ifl_mbuf.proofs.run.Run.join.Statement.{statement}
use Rattle.ifl_mbuf.proofs.run.Run.join.Code as code

pub join_spec : {M : Type 1} → statement M
join_spec 𝓤 𝓛 𝓜 𝓡 wired =
    let H = 𝓛.H in let 𝓣 = tables 𝓤 H 𝓜 𝓡 𝓡.env in let c = clauses 𝓛 𝓜.mem 𝓡.returns in
    let fn = code.function in
    let hs : Stays ended.signature.params ended.kept = (stay_dropped (plain (λ _. run.the_row)) ended.kept.0, (stay_dropped (plain (λ _. run.the_row)) ended.kept.1.0, tt)) in
    proved_at 𝓛 ended hs c 𝓜 𝓡 (Goes-blank 𝓛 0 (plain (λ _. run.the_row)) ended.kept.0 (λ κs x f. tt), (Goes-blank 𝓛 0 (plain (λ _. run.the_row)) ended.kept.1.0 (λ κs x f. tt), tt)) #self fn (code.unfolded 𝓤 H 𝓜 𝓡 wired) (λ z are.
    let v : Run = z.0.3.0 in let u : Run = z.0.3.1.0 in let a = v.alloc in let Post : Val → SProp 𝓤 = (walk_of 𝓛 ended hs c).post z in
    let Asked : Type 0 = (0 < length v.nodes) × (0 < length u.nodes) in
    qed 𝓛 ((raw (alive 𝓛 ended.signature z.0.0 z.0.1) ⊛ ‵ (owns (types_at ended.signature.params z.0.0) z.0.3 z.0.4)) ∷ raw (fact 𝓤 Asked) ∷ []) ∵ move ! (1 ∷ []) $ heard ! Asked (λ some. split ! $ move ! (1 ∷ []) $ fsplit ! $
    run_out ! v z.0.4.0 (λ h ws fits. move ! (2 ∷ []) $ fsplit ! $ run_out ! u z.0.4.1.0 (λ k us fits'.
    -- [the other's nodes; its handle; true; the nodes; the handle; the tokens]
    let cut = split_last v.nodes some.0 in let ns : List Placed = cut.0 in let n : Placed = cut.1 in
    let more = split_first u.nodes some.1 in let m : Placed = more.0 in let ms : List Placed = more.1 in
    let linked : IsLinked v.first.ptr v.last.ptr (ns ++ n ∷ []) = subst (IsLinked v.first.ptr v.last.ptr) cut.2 v.linked in
    let behind : IsLinked u.first.ptr u.last.ptr (m ∷ ms) = subst (IsLinked u.first.ptr u.last.ptr) more.2 u.linked in
    move ! (3 ∷ []) $ rewrite ! 0 (λ (l : List Placed). ‵ (nodes_own a l)) cut.2 refl $
    use1 𝓛 (‵ (nodes_own a ns) ⊛ ‵ (nodes_own a (n ∷ []))) (row_cut 𝓛 a ns (n ∷ [])) $ split ! $ move ! (1 ∷ []) $ fsplit ! $
    in_a_block ! n.0 (λ p. box_owns (ghosts.dealloc_token a) R p n.1) (fst∗ 𝓤 (never 𝓤) (sem 𝓛 (ghosts.dealloc_token a (bare (lone R.mir)) null_ptr))) (λ b o e. fsplit ! $
    let p : Ptr = block_ptr b o in
    let told : z.0.4.0 ≡ run_val v.first.ptr p h ∷ [] = ws ∙ ap (λ (q : Ptr). run_val v.first.ptr q h ∷ []) (last_is v.first.ptr v.last.ptr ns n linked ∙ e) in
    let n' : Placed = (n.0, led n.1 u.first) in
    let d : Run = record { first = v.first; last = u.last; alloc = a; nodes = ns ++ n' ∷ m ∷ ms; linked = joined v.first.ptr v.last.ptr ns n u.first u.last.ptr m ms linked behind } in
    node_out ! n.1 b o (λ is.
    regoal ! (λ (xs : List Val). prop (WpFn 𝓤 H 𝓣.C 𝓣.Λ fn xs Post)) (λ i. told i ++ (us i ++ [])) refl $
    enter ! 𝓣.C 𝓣.Λ fn (run_val v.first.ptr p h ∷ run_val u.first.ptr u.last.ptr k ∷ []) Post $ alloc_all ! (λ l. pass_all ! refl (run_good v.first.ptr p h fits, (run_good u.first.ptr u.last.ptr k fits', tt)) $
    sets ! (of_opd ! (get_in ! (fld ! refl (stop !)) (sub ! 0 refl (whole !)))) refl (word_typed v.first.ptr) $
    sets ! (of_opd ! (get_in ! (fld ! refl (stop !)) (sub ! 1 refl (whole !)))) refl (word_typed p) $
    sets ! (of_opd ! (get_in ! (fld ! refl (stop !)) (sub ! 2 refl (whole !)))) refl fits $
    sets ! (of_opd ! (get_in ! (fld ! refl (stop !)) (sub ! 0 refl (whole !)))) refl (word_typed u.first.ptr) $
    sets ! (of_opd ! (get_in ! (fld ! refl (stop !)) (sub ! 1 refl (whole !)))) refl (word_typed u.last.ptr) $
    sets ! (of_opd ! (get_in ! (fld ! refl (stop !)) (sub ! 0 refl (whole !)))) refl (tt, tt) $
    first ! $ blocks ! $
    assigns_last ! (of_opd ! (get ! refl)) (through ! refl (fld ! refl (stop !))) (store_in ! 0 (sub ! 0 refl (whole !)) (word_typed u.first.ptr)) $
    exec ! 𝓣.C 𝓣.Λ (env fn.locals l) (after 7 fn.body) (at_ret (env fn.locals l) Post) $
    sets ! (agg ! (and_then ! (get ! refl) (and_then ! (get ! refl) (and_then ! (get ! refl) (no_more !))))) refl (run_good v.first.ptr u.last.ptr h fits) $
    returns ! (look_at ! 0 refl) $ free_all ! refl $ node_in ! (led n.1 u.first) b o (led_is n.1 u.first is) $
    -- [the node; the right to free it; true; the nodes before; the other's nodes; its handle; true; the handle; the tokens]
    fjoin ! $ rewrite ! 0 (λ (q : Ptr). ‵ (box_owns (ghosts.dealloc_token a) R q (led n.1 u.first))) (sym e) refl $
    -- [the node; true; the nodes before; the other's nodes; its handle; true; the handle; the tokens]
    move ! (0 ∷ 3 ∷ []) $ rewrite ! 1 (λ (l : List Placed). ‵ (nodes_own a l)) more.2 refl $ fjoin ! $ move ! (2 ∷ 0 ∷ []) $
    use2 𝓛 (‵ (nodes_own a (ns ++ n' ∷ m ∷ ms))) (row_joined 𝓛 a ns (n' ∷ m ∷ ms)) $ move ! (0 ∷ 4 ∷ []) $ run_in ! d h $
    let Said : Type 0 = bodies d.nodes ≡ bodies v.nodes ++ bodies u.nodes in
    use0 𝓛 (raw (fact 𝓤 Said)) (fact_i 𝓤 Said (emp 𝓤) (bodies_joined ns n u.first (m ∷ ms) ∙ (λ i. bodies (sym cut.2 i) ++ bodies (sym more.2 i)))) $ nothing ! $ nothing ! $ fjoin ! $ nothing ! $ fjoin ! $
    keep ! (6 ∷ 0 ∷ 2 ∷ 1 ∷ []) $ by ! (leaves 𝓛 ended hs c z (run_val v.first.ptr u.last.ptr h) d (tt, (tt, tt)) (tt, (tt, tt))))))))))
