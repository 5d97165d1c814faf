-- `split_first` follows the first node's link. Assumes `Logic`.
use Rattle.std.proofs.Common.{◌≡◌, ◌<◌, List, [], ◌∷◌, ◌++◌, length, refl, ap, subst, ◌∙◌}
use mir.Raw.{raw as bare}
use mir.Val.{Val}
use base.Logic.{SProp, emp, never, fst∗}
use prog.Wp.{WpFn}
use contract.Monad.{fact, fact_i}
use contract.Running.{tables}
use types.Logic.{sem}
use types.Kit.{‵, raw, ◌⊛◌, prop, at_ret, ◌$◌, ◌∵◌, !, qed, by, move, keep, split, fsplit, fjoin, regoal, rewrite, use0, use2}
use types.Part.{agg, sub, whole, look_in}
use types.Run.{stop, fld, load, of_opd, no_more, and_then, first, blocks, exec, returns, enter}
use types.ByLocal.{alloc_all, pass_all, free_all, look_at, get, get_in, through, sets, sets_last, env}
use denote.RattleType.{RattleType, owns}
use denote.Laws.{Is, shows}
use denote.Memory.{lone}
use denote.RawPtr.{Ptr, block_ptr, null_ptr, in_a_block}
use denote.Param.{layout}
use denote.Signature.{types_at, plain}
use denote.Steps.{nothing, heard, peeks, owned}
use denote.Struct.Laws as LL
use denote.Struct.Tuple.{Tuple}
use denote.Triple.Entry.{alive}
use denote.Triple.Walked.{Stays, stay_dropped, walk_of}
use Rattle.core.proofs.alloc.Calls.{Goes-blank}
use Rattle.core.proofs.alloc.Shapes.{after}
use Rattle.std_alloc.proofs.Pairs.{pair_of, pair_val, pair_Typed}
use Rattle.std_alloc.specs.Box.Ownership.{box_owns}
use Rattle.std.proofs.raw_atomic.Walks.{proved_at, leaves}
use Rattle.std.specs.contracts.impls.GlobalAllocator.TheImpl.{ghosts}
use Rattle.std_heap.specs.contracts.Global as global
use Rattle.std_heap.proofs.Global.TheLaws as global_laws
use Rattle.ifl_mbuf.proofs.UnboxedSteps.{unboxed_val, Apart, unboxed_good, unboxed_in}
use Rattle.ifl_mbuf.proofs.RunValues.{Heap, heap_laws, run_val, run_good, run_in, run_out}
use Rattle.ifl_mbuf.proofs.PlaceSteps.{word_typed}
use Rattle.ifl_mbuf.proofs.NodeSteps.{R, node_out, node_in}
use Rattle.ifl_mbuf.proofs.Linked.{split_first, first_is, rest_is}
use Rattle.ifl_mbuf.specs.Nodes.{Placed, IsLinked, bodies, nodes_own}
use Rattle.ifl_mbuf.specs.contracts.run.Run as run
use Rattle.ifl_mbuf.specs.declared.run.Run.{Run}
use Rattle.ifl_mbuf.specs.contracts.run.Run.split_first.{ended, clauses}
use Rattle.ifl_mbuf.specs.contracts.run.Run.split_first.Key.{name as #self}
use Rattle.ifl_mbuf.proofs.run.Run.split_first.Statement.{statement}
use Rattle.ifl_mbuf.proofs.run.Run.split_first.Code as code

pub split_first_spec : {M : Type 1} → statement M
split_first_spec 𝓤 𝓛 𝓜 𝓡 wired =
    let H = 𝓛.H in let 𝓣 = tables 𝓤 H 𝓜 𝓡 𝓡.env in let c = clauses 𝓛 𝓜.mem 𝓡.returns in
    let fn = code.function in let L : RattleType = Apart R Heap heap_laws ghosts in
    let hs : Stays ended.signature.params ended.kept = (stay_dropped (plain (λ _. run.the_row)) ended.kept.0, tt) in
    proved_at 𝓛 ended hs c 𝓜 𝓡 (Goes-blank 𝓛 0 (plain (λ _. run.the_row)) ended.kept.0 (λ κs x f. tt), tt) #self fn (code.unfolded 𝓤 H 𝓜 𝓡 wired) (λ z are.
    let v : Run = z.0.3.0 in let a = v.alloc in let Post : Val → SProp 𝓤 = (walk_of 𝓛 ended hs c).post z in
    qed 𝓛 ((raw (alive 𝓛 ended.signature z.0.0 z.0.1) ⊛ ‵ (owns (types_at ended.signature.params z.0.0) z.0.3 z.0.4)) ∷ raw (fact 𝓤 (0 < length v.nodes)) ∷ []) ∵ move ! (1 ∷ []) $ heard ! (0 < length v.nodes) (λ some. split ! $ move ! (1 ∷ []) $ fsplit ! $
    run_out ! v z.0.4.0 (λ h ws fits.
    let cut = split_first v.nodes some in let n : Placed = cut.0 in let ns : List Placed = cut.1 in
    let linked : IsLinked v.first.ptr v.last.ptr (n ∷ ns) = subst (IsLinked v.first.ptr v.last.ptr) cut.2 v.linked in
    rewrite ! 0 (λ (l : List Placed). ‵ (nodes_own a l)) cut.2 refl $ fsplit ! $
    in_a_block ! n.0 (λ p. box_owns (ghosts.dealloc_token a) R p n.1) (fst∗ 𝓤 (never 𝓤) (sem 𝓛 (ghosts.dealloc_token a (bare (lone R.mir)) null_ptr))) (λ b o e. fsplit ! $
    let p : Ptr = block_ptr b o in
    let told : z.0.4.0 ≡ run_val p v.last.ptr h ∷ [] = ws ∙ ap (λ (q : Ptr). run_val q v.last.ptr h ∷ []) (first_is v.first.ptr v.last.ptr n ns linked ∙ e) in
    let d : Run = record { first = n.1.next; last = v.last; alloc = a; nodes = ns; linked = rest_is v.first.ptr v.last.ptr n ns linked } in
    node_out ! n.1 b o (λ is.
    regoal ! (λ (us : List Val). prop (WpFn 𝓤 H 𝓣.C 𝓣.Λ fn us Post)) (λ i. told i ++ []) refl $
    enter ! 𝓣.C 𝓣.Λ fn (run_val p v.last.ptr h ∷ []) Post $ alloc_all ! (λ l. pass_all ! refl (run_good p v.last.ptr h fits, tt) $
    sets ! (of_opd ! (get_in ! (fld ! refl (stop !)) (sub ! 0 refl (whole !)))) refl (word_typed p) $
    sets ! (of_opd ! (get_in ! (fld ! refl (stop !)) (sub ! 1 refl (whole !)))) refl (word_typed v.last.ptr) $
    sets ! (of_opd ! (get_in ! (fld ! refl (stop !)) (sub ! 2 refl (whole !)))) refl fits $
    sets ! (of_opd ! (get_in ! (fld ! refl (stop !)) (sub ! 0 refl (whole !)))) refl (tt, tt) $
    first ! $ blocks ! $
    sets_last ! (of_opd ! (load ! (through ! refl (fld ! refl (stop !))) (look_in ! 0 (sub ! 0 refl (whole !))))) refl (word_typed n.1.next.ptr) $
    exec ! 𝓣.C 𝓣.Λ (env fn.locals l) (after 5 fn.body) (at_ret (env fn.locals l) Post) $
    sets ! (of_opd ! (get ! refl)) refl (word_typed n.1.next.ptr) $
    sets ! (agg ! (and_then ! (get ! refl) (and_then ! (get ! refl) (no_more !)))) refl (unboxed_good R Heap heap_laws ghosts h b o fits) $
    sets ! (agg ! (and_then ! (get ! refl) (and_then ! (get ! refl) (and_then ! (get ! refl) (no_more !))))) refl (run_good n.1.next.ptr v.last.ptr h fits) $
    sets ! (agg ! (and_then ! (get ! refl) (and_then ! (get ! refl) (no_more !)))) refl (pair_Typed (layout L) (layout run.the_row) (unboxed_val h b o) (run_val n.1.next.ptr v.last.ptr h) (unboxed_good R Heap heap_laws ghosts h b o fits) (run_good n.1.next.ptr v.last.ptr h fits)) $
    returns ! (look_at ! 0 refl) $ free_all ! refl $ node_in ! n.1 b o is $
    -- [the node; the right to free it; the other nodes; the handle; true; the tokens]
    fjoin ! $ move ! (2 ∷ []) $ peeks ! Heap (Is Heap) (shows 𝓛 Heap) a (h ∷ []) (λ his. owned ! Heap (Is Heap) ((LL.makes global.the_type global_laws.the_plain) 𝓛) a (h ∷ []) his $
    move ! (0 ∷ 2 ∷ []) $ unboxed_in R Heap heap_laws ghosts ! h b o a n.1 $ move ! (2 ∷ 1 ∷ []) $ run_in ! d h $ move ! (1 ∷ 0 ∷ []) $
    let y : L.Denot = record { alloc = a; place = p; value = n.1 } in let out : Val = pair_val (unboxed_val h b o) (run_val n.1.next.ptr v.last.ptr h) in
    use2 𝓛 (‵ ((Tuple (L ∷ run.the_row ∷ [])).own_val (y, d) (out ∷ []))) (pair_of 𝓛 L run.the_row y d (unboxed_val h b o) (run_val n.1.next.ptr v.last.ptr h)) $
    let Said : Type 0 = bodies v.nodes ≡ n.1.body ∷ bodies ns in
    use0 𝓛 (raw (fact 𝓤 Said)) (fact_i 𝓤 Said (emp 𝓤) (ap bodies cut.2)) $ nothing ! $ nothing ! $ fjoin ! $
    keep ! (4 ∷ 0 ∷ 2 ∷ 1 ∷ []) $ by ! (leaves 𝓛 ended hs c z out (y, d) (tt, tt) (tt, tt)))))))))
