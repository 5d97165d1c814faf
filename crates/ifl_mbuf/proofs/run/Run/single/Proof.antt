-- `single` hands the one node over. Assumes `Logic`.
use Rattle.std.proofs.Common.{◌≡◌, ◌<◌, length, arith, List, [], ◌∷◌, ◌++◌, refl, sym, subst}
use mir.Val.{Val}
use base.Logic.{SProp, ent, emp, id⊢}
use base.Fml.{ftrue}
use prog.Wp.{WpFn}
use contract.Monad.{fact, fact_i}
use contract.Running.{tables}
use types.Kit.{‵, raw, ◌⊛◌, ◌$◌, ◌∵◌, !, qed, by, move, keep, split, fsplit, fjoin, suffices, use0}
use types.Part.{agg, sub, whole}
use types.Run.{stop, fld, of_opd, no_more, and_then, returns, enter}
use types.ByLocal.{alloc_all, pass_all, free_all, look_at, get, get_in, sets}
use denote.RattleType.{RattleType, owns}
use denote.RawPtr.{block_ptr}
use denote.Signature.{types_at, plain}
use denote.Steps.{nothing}
use denote.Triple.Entry.{alive}
use denote.Triple.Walked.{Stays, stay_dropped, walk_of}
use Rattle.core.proofs.alloc.Calls.{Goes-blank}
use Rattle.std.proofs.raw_atomic.Walks.{proved_at, leaves}
use Rattle.std.specs.contracts.impls.GlobalAllocator.TheImpl.{ghosts}
use Rattle.ifl_mbuf.proofs.UnboxedSteps.{unboxed_val, Apart, unboxed_good, unboxed_out}
use Rattle.ifl_mbuf.proofs.PlaceSteps.{word_typed}
use Rattle.ifl_mbuf.proofs.RunValues.{Heap, heap_laws, run_val, run_good, run_in}
use Rattle.ifl_mbuf.specs.contracts.node.Node as node
use Rattle.ifl_mbuf.specs.declared.run.Run.{Run}
use Rattle.ifl_mbuf.specs.contracts.run.Run.single.{ended, clauses}
use Rattle.ifl_mbuf.specs.contracts.run.Run.single.Key.{name as #self}
use Rattle.ifl_mbuf.proofs.run.Run.single.Statement.{statement}
use Rattle.ifl_mbuf.proofs.run.Run.single.Code as code

pub single_spec : {M : Type 1} → statement M
single_spec 𝓤 𝓛 𝓜 𝓡 wired =
    let H = 𝓛.H in let 𝓣 = tables 𝓤 H 𝓜 𝓡 𝓡.env in let R : RattleType = node.the_row in let c = clauses 𝓛 𝓜.mem 𝓡.returns in
    let fn = code.function in
    let hs : Stays ended.signature.params ended.kept = (stay_dropped (plain (λ _. Apart R Heap heap_laws ghosts)) ended.kept.0, tt) in
    proved_at 𝓛 ended hs c 𝓜 𝓡 (Goes-blank 𝓛 0 (plain (λ _. Apart R Heap heap_laws ghosts)) ended.kept.0 (λ κs x f. tt), tt) #self fn (code.unfolded 𝓤 H 𝓜 𝓡 wired) (λ z are.
    let v = z.0.3.0 in let a = v.alloc in let Post : Val → SProp 𝓤 = (walk_of 𝓛 ended hs c).post z in let Goes : List Val → SProp 𝓤 = λ ws. WpFn 𝓤 H 𝓣.C 𝓣.Λ fn ws Post in
    qed 𝓛 ((raw (alive 𝓛 ended.signature z.0.0 z.0.1) ⊛ ‵ (owns (types_at ended.signature.params z.0.0) z.0.3 z.0.4)) ∷ ‵ ftrue ∷ []) ∵ split ! $ move ! (1 ∷ []) $ fsplit ! $
    unboxed_out R Heap heap_laws ghosts ! v z.0.4.0 (λ h b o e ws fits.
    let w : Val = unboxed_val h b o in let typed = unboxed_good R Heap heap_laws ghosts h b o fits in
    let p = block_ptr b o in
    let d : Run = record { first = record { ptr = p }; last = record { ptr = p }; alloc = a; nodes = (p, v.value) ∷ []; linked = (refl, refl) } in
    suffices ! (Goes (w ∷ [])) (subst (λ (us : List Val). ent 𝓤 (Goes (w ∷ [])) (Goes us)) (sym (λ i. ws i ++ [])) (id⊢ 𝓤 (Goes (w ∷ [])))) $
    enter ! 𝓣.C 𝓣.Λ fn (w ∷ []) Post $ alloc_all ! (λ l. pass_all ! refl (typed, tt) $
    sets ! (of_opd ! (get_in ! (fld ! refl (stop !)) (sub ! 0 refl (whole !)))) refl fits $
    sets ! (of_opd ! (get_in ! (fld ! refl (stop !)) (sub ! 1 refl (whole !)))) refl (tt, tt) $
    sets ! (agg ! (and_then ! (get ! refl) (no_more !))) refl (word_typed p) $
    sets ! (agg ! (and_then ! (get ! refl) (and_then ! (get ! refl) (and_then ! (get ! refl) (no_more !))))) refl (run_good p p h fits) $
    returns ! (look_at ! 0 refl) $ free_all ! refl $
    -- [the handle; the node; the tokens; true]
    nothing ! $ move ! (2 ∷ 0 ∷ []) $ fjoin ! $ run_in ! d h $
    let Said : Type 0 = (v.value.body ∷ [] ≡ v.value.body ∷ []) × (0 < length d.nodes) in use0 𝓛 (raw (fact 𝓤 Said)) (fact_i 𝓤 Said (emp 𝓤) (refl, omega arith)) $ nothing ! $ nothing ! $ fjoin ! $
    keep ! (4 ∷ 0 ∷ 2 ∷ 1 ∷ []) $ by ! (leaves 𝓛 ended hs c z (run_val p p h) d (tt, tt) (tt, tt)))))
