-- `node` shows a node that the list lends. Assumes `Logic`.
use Rattle.std.proofs.Common.{◌≡◌, ◌+◌, ◌<◌, List, [], ◌∷◌, ◌++◌, length, refl, ap, ◌∙◌, arith, w64}
use mir.Syntax.{named}
use mir.Val.{Val, vptr, vint}
use base.Logic.{SProp, emp, never, fst∗}
use base.Fml.{ftrue, flft}
use prog.Wp.{WpFn}
use contract.Monad.{fact, fact_i}
use contract.Running.{tables}
use types.Logic.{sem}
use types.Kit.{‵, raw, ◌⊛◌, prop, at_ret, ◌$◌, ◌∵◌, !, qed, by, move, keep, drop, split, join, fsplit, fjoin, feq_i, feq_l, regoal, use0, use1}
use types.Part.{sub, whole}
use types.Run.{stop, fld, of_opd, addr, first, blocks, exec, returns, enter}
use types.ByLocal.{alloc_all, pass_all, free_all, look_at, get, get_in, through, sets, sets_last, env}
use denote.RattleType.{owns}
use denote.Memory.{shared_of}
use denote.RawPtr.{Ptr, block_ptr, in_a_block}
use denote.Ref.{ShrRef, Bor}
use denote.Builtin.{RefOf, usize}
use denote.Opens.{unhide, hide}
use denote.Signature.{plain}
use denote.Steps.{nothing, heard}
use denote.Struct.Lending.{lent_at}
use denote.Triple.Walked.{Stays, stay_dropped, walk_of, Goes-dropped}
use Rattle.core.proofs.alloc.Shapes.{after}
use Rattle.std.proofs.raw_atomic.Walks.{proved_at, leaves}
use Rattle.ifl_mbuf.proofs.Linked.{split_first, node_at, placed_is, next_is, body_is}
use Rattle.ifl_mbuf.proofs.Sharing.{lent_node}
use Rattle.ifl_mbuf.proofs.PlaceSteps.{P, word, word_typed, place_out}
use Rattle.ifl_mbuf.specs.Nodes.{Placed, bodies, place_of, body_of}
use Rattle.ifl_mbuf.specs.declared.node.Node.{Node}
use Rattle.ifl_mbuf.specs.contracts.node.Node.{the_row as R}
use Rattle.ifl_mbuf.specs.contracts.run.Run as run
use Rattle.ifl_mbuf.specs.contracts.run.Run.node.{ended, clauses}
use Rattle.ifl_mbuf.specs.contracts.run.Run.node.Key.{name as #self}
use Rattle.ifl_mbuf.proofs.run.Run.node.Statement.{statement}
use Rattle.ifl_mbuf.proofs.run.Run.node.Code as code

pub node_spec : {M : Type 1} → statement M
node_spec {M} 𝓤 𝓛 𝓜 𝓡 wired =
    let H = 𝓛.H in let 𝓣 = tables 𝓤 H 𝓜 𝓡 𝓡.env in let c = clauses 𝓛 𝓜.mem 𝓡.returns in let fn = code.function in
    let hs : Stays ended.signature.params ended.kept = (stay_dropped (RefOf (0 ∷ []) tt (plain (λ _. run.the_row)) (λ _. tt)) ended.kept.0, (stay_dropped (plain (λ _. P)) ended.kept.1.0, (stay_dropped (plain (λ _. usize)) ended.kept.1.1.0, tt))) in
    proved_at 𝓛 ended hs c 𝓜 𝓡 (Goes-dropped 𝓛 1 (RefOf (0 ∷ []) tt (plain (λ _. run.the_row)) (λ _. tt)) ended.kept.0 (λ κs x f. refl), (Goes-dropped 𝓛 1 (plain (λ _. P)) ended.kept.1.0 (λ κs x f. refl), (Goes-dropped 𝓛 1 (plain (λ _. usize)) ended.kept.1.1.0 (λ κs x f. refl), tt))) #self fn (code.unfolded 𝓤 H 𝓜 𝓡 wired) (λ z are.
    let κ = z.0.0.0 in let q = z.0.1.0 in let d = z.0.3.0.now in let b = z.0.3.0.ref_ptr.0 in let o = z.0.3.0.ref_ptr.1 in let at = z.0.3.1.0 in let i = z.0.3.1.1.0 in
    let Post : Val → SProp 𝓤 = (walk_of 𝓛 ended hs c).post z in
    let Asked : Type 0 = (i < length d.nodes) × (at.ptr ≡ place_of d.first.ptr d.nodes i) in
    qed 𝓛 (((‵ (flft κ q) ⊛ ‵ ftrue) ⊛ ‵ (owns (ShrRef (named 0) κ run.the_row ∷ P ∷ usize ∷ []) z.0.3 z.0.4)) ∷ raw (fact 𝓤 Asked) ∷ []) ∵ move ! (1 ∷ []) $ heard ! Asked (λ asked. split ! $ split ! $ move ! (2 ∷ []) $ fsplit ! $ fsplit ! $ feq_l ! (λ e.
    move ! (1 ∷ []) $ fsplit ! $ place_out ! at z.0.4.1.0 (λ e'. drop ! $
    -- [the `&`; the token; true]
    let some : 0 < length d.nodes = let s = asked.0 in omega arith in
    let u : Placed = (split_first d.nodes some).0 in let n : Placed = node_at d.nodes i u in
    unhide ! $ fsplit ! $ drop ! $ use1 𝓛 (‵ (lent_at R n.0 n.1 κ)) (lent_node 𝓛 κ d.nodes i u asked.0) $
    in_a_block ! n.0 (λ p. lent_at R p n.1 κ) (fst∗ 𝓤 (never 𝓤) (sem 𝓛 (shared_of R n.1 0 0 κ))) (λ nb no en. fsplit ! $ drop ! $ hide ! $
    let p : Ptr = block_ptr nb no in let r : Val = vptr nb no in
    let here : at.ptr ≡ p = asked.1 ∙ (placed_is d.first.ptr d.last.ptr d.nodes i u asked.0 ∙ en) in
    let told : z.0.4.1.0 ≡ word p ∷ [] = e' ∙ ap (λ (k : Ptr). word k ∷ []) here in
    regoal ! (λ (us : List Val). prop (WpFn 𝓤 H 𝓣.C 𝓣.Λ fn us Post)) (λ j. e j ++ (told j ++ (are.1.1.0.0 j ++ []))) refl $
    enter ! 𝓣.C 𝓣.Λ fn (vptr b o ∷ word p ∷ vint w64 i ∷ []) Post $ alloc_all ! (λ l. pass_all ! refl ((tt, tt), (word_typed p, ((tt, record { fits = are.1.1.0.1 }), tt))) $
    sets ! (of_opd ! (get_in ! (fld ! refl (stop !)) (sub ! 0 refl (whole !)))) refl (tt, tt) $
    first ! $ blocks ! $ sets_last ! (addr ! (through ! refl (stop !))) refl (tt, tt) $
    exec ! 𝓣.C 𝓣.Λ (env fn.locals l) (after 2 fn.body) (at_ret (env fn.locals l) Post) $ sets ! (of_opd ! (get ! refl)) refl (tt, tt) $
    feq_i ! (List Val) (r ∷ []) (r ∷ []) refl $ fjoin ! $ returns ! (look_at ! 0 refl) $ free_all ! refl $
    let ref : Bor Node = record { ref_ptr = (nb, no); now = n.1 } in
    let Said : Type 0 = (n.1.body ≡ body_of (bodies d.nodes) i n.1.body) × (n.1.next.ptr ≡ place_of d.first.ptr d.nodes (i + 1)) in
    use0 𝓛 (raw (fact 𝓤 Said)) (fact_i 𝓤 Said (emp 𝓤) (body_is d.nodes i u asked.0, next_is d.first.ptr d.last.ptr d.nodes i u asked.0 d.linked)) $ nothing ! $ nothing ! $ fjoin ! $ nothing ! $ fjoin ! $ nothing ! $ fjoin ! $
    keep ! (3 ∷ 4 ∷ 0 ∷ 2 ∷ 1 ∷ []) $ join ! $ by ! (leaves 𝓛 ended hs c z r ref (tt, (tt, (tt, tt))) (tt, (tt, (tt, tt))))))))))
