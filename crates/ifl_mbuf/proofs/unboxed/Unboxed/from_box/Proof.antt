-- `from_box` calls std's `into_raw_with_allocator`, and keeps what it hands out. Assumes `Logic`.
use Rattle.std.proofs.Common.{◌≡◌, List, [], ◌∷◌, ◌++◌, refl, ap, ◌∙◌}
use mir.Syntax.{a_type, dcons, dnil}
use mir.Val.{Val}
use mir.MapTy.{inst_fn}
use base.Logic.{SProp, emp, id⊢}
use base.Fml.{ftrue, fsep, flft}
use prog.Wp.{WpFn}
use types.Kit.{‵, raw, ◌⊛◌, some, later, prop, ◌$◌, ◌∵◌, !, qed, by, move, keep, drop, split, split3, join, fsplit, fjoin, pick, regoal, use0, use1, await, rewrite}
use types.Run.{stop, fld, of_opd, no_more, and_then, returns, enter}
use types.ByLocal.{alloc_all, pass_all, free_all, look_at, get, get_in, sets, lands_as}
use types.Part.{agg, sub, whole}
use contract.Monad.{fact, fact_i}
use contract.Running.{tables}
use denote.Exit.{no}
use denote.RattleType.{RattleType, owns}
use denote.Signature.{types_at, plain}
use denote.Builtin.{RawPtr}
use denote.RawPtr.{Ptr, block_ptr, ptr_val}
use denote.Steps.{nothing, only, heard}
use denote.Param.{param, bounded}
use denote.Param.Laws.{param_laws}
use denote.Struct.Tuple.{Tuple}
use denote.Triple.Spec.{triple_of}
use denote.Triple.Call.{calls_at}
use denote.Triple.Walked.{Stays, stay_dropped, walk_of}
use Rattle.core.proofs.alloc.Calls.{Goes-blank}
use Rattle.core.proofs.atomic.Steps.{fm}
use Rattle.std_alloc.specs.Box.Ownership.{box_owns}
use Rattle.std_alloc.proofs.BoxSteps.Form as box
use Rattle.std_alloc.proofs.BoxSteps.Steps.{box_out, box_in}
use Rattle.std_alloc.proofs.Pairs.{pair_val}
use Rattle.std.proofs.raw_atomic.Walks.{proved_at, leaves}
use Rattle.ifl_mbuf.proofs.UnboxedSteps.{unboxed_val, unboxed_good, pair_good, in_block, parts_out, unboxed_in}
use Rattle.std_alloc.specs.contracts.boxed.Box.into_raw_with_allocator as callee
use Rattle.std_alloc.proofs.boxed.Box.into_raw_with_allocator.Met.{met}
use Rattle.ifl_mbuf.specs.contracts.unboxed.Unboxed.from_box.{ended, clauses}
use Rattle.ifl_mbuf.specs.contracts.unboxed.Unboxed.from_box.Key.{name as #self}
use Rattle.ifl_mbuf.proofs.unboxed.Unboxed.from_box.Statement.{statement}
use Rattle.ifl_mbuf.proofs.unboxed.Unboxed.from_box.Code as code

pub from_box_spec : {M : Type 1} → statement M
from_box_spec 𝓤 𝓛 𝓜 𝓡 wired T A L LA g d dx dd allocator glue glued =
    let R : RattleType = param 0 T in let Z : RattleType = param 1 A in let laws = param_laws 1 A LA in
    let B : box.Bx = record { row = T; laws = L; al = record { row = A; laws = LA; g = g; d = d; drops = dd } } in
    let given = bounded (a_type ∷ a_type ∷ []) (T, (A, tt)) (dcons d (dcons dx (dcons dd dnil))) in
    let 𝓣 = tables 𝓤 𝓛.H 𝓜 𝓡 𝓡.env in let fn = inst_fn given code.function in let E = ended T A g d dx dd in let c = clauses T A g d dx dd 𝓛 𝓜.mem 𝓡.returns in
    let stays : Stays E.signature.params E.kept = (stay_dropped (plain (λ _. box.B B)) no, tt) in
    let called = triple_of 𝓛 (callee.signature T A g d dd dx) (callee.spec T A g d dd dx 𝓛 𝓜.mem 𝓡.returns) in
    proved_at 𝓛 E stays c 𝓜 𝓡 (Goes-blank 𝓛 2 (plain (λ _. box.B B)) no (λ κs x f. tt), tt) (#self given) fn (code.unfolded 𝓤 𝓛.H 𝓜 𝓡 wired (T, (A, tt)) d dx dd) (λ z are.
    let boxed = z.0.3.0 in let a = boxed.alloc in let Post : Val → SProp 𝓤 = (walk_of 𝓛 E stays c).post z in
    let tokens = ‵ (flft z.0.0.0 z.0.1.0) ⊛ ‵ (flft z.0.0.1.0 z.0.1.1.0) ⊛ ‵ ftrue in
    qed 𝓛 ((tokens ⊛ ‵ (owns (types_at E.signature.params z.0.0) z.0.3 z.0.4)) ∷ raw ((c z.0.0 z.0.3).requires z.1) ∷ []) ∵ split ! $ move ! (1 ∷ []) $ fsplit ! $
    -- the box's machine value, so that the code can be entered with it
    box_out B ! boxed z.0.4.0 (λ b o h e ws fits. let w : Val = box.word B h b o in let typed = pair_good R Z laws g b o h fits in
    regoal ! (λ (us : List Val). prop (WpFn 𝓤 𝓛.H 𝓣.C 𝓣.Λ fn us Post)) (λ i. ws i ++ []) refl $
    box_in B ! boxed b o boxed.value e refl $ fjoin ! $ move ! (1 ∷ 0 ∷ []) $ join ! $ join ! $
    let y : called.Ghost = ((z.0.0, z.0.1, tt, (boxed, tt), (w ∷ [], tt)), tt) in use1 𝓛 (raw (called.pre y)) (id⊢ 𝓤 _) $
    enter ! 𝓣.C 𝓣.Λ fn (w ∷ []) Post $ alloc_all ! (λ l. pass_all ! refl (typed, tt) $ sets ! (of_opd ! (get ! refl)) refl typed $
    calls_at ! (fm 𝓛 𝓜 𝓡) called (met 𝓤 𝓛 𝓜 𝓡 (code.calls-std_alloc::boxed::Box::into_raw_with_allocator 𝓡.env wired) T A L LA g d dd dx allocator glued glue) y (and_then ! (get ! refl) (no_more !)) (λ u.
    let Parts = Tuple (RawPtr ∷ Z ∷ []) in
    use1 𝓛 (later (some (λ (r : Ptr × A.Denot). (tokens ⊛ ‵ (Parts.own_val r (u ∷ []))) ⊛ some (λ (_ : (Unit {0} × (Unit {0} × Unit {0})) × Unit {0}). ‵ (fsep (fsep ftrue (fsep ftrue ftrue)) ftrue) ⊛ (raw (fact 𝓤 (r.1 ≡ a)) ⊛ ‵ (box_owns (g.dealloc_token a) R r.0 boxed.value)))))) (id⊢ 𝓤 _) $
    await ! tt $ pick ! (λ r. split ! $ move ! (1 ∷ []) $ pick ! (λ _. split3 ! $ drop ! $ heard ! (r.1 ≡ a) (λ same.
    in_block R Z laws g ! a r.0 boxed.value (λ b' o' at. move ! (1 ∷ []) $ split ! $ move ! (1 ∷ []) $
    parts_out R Z laws g ! r (u ∷ []) (λ h' pair fits'. rewrite ! 0 (λ (s : A.Denot). ‵ (A.own_val s (h' ∷ []))) same refl $
    -- [the handle; the tokens; the value with the right to free it; the locals]
    lands_as ! (ap only (pair ∙ ap (λ (p : Ptr). pair_val (ptr_val p) h' ∷ []) at)) refl (pair_good R Z laws g b' o' h' fits') $
    sets ! (of_opd ! (get_in ! (fld ! refl (stop !)) (sub ! 0 refl (whole !)))) refl (tt, tt) $
    sets ! (of_opd ! (get_in ! (fld ! refl (stop !)) (sub ! 1 refl (whole !)))) refl fits' $
    sets ! (of_opd ! (get ! refl)) refl fits' $ sets ! (agg ! (and_then ! (get ! refl) (and_then ! (get ! refl) (no_more !)))) refl (unboxed_good R Z laws g h' b' o' fits') $
    move ! (0 ∷ 2 ∷ []) $ unboxed_in R Z laws g ! h' b' o' a boxed.value $
    use0 𝓛 (raw (fact 𝓤 (boxed.value ≡ boxed.value))) (fact_i 𝓤 (boxed.value ≡ boxed.value) (emp 𝓤) refl) $ nothing ! $ nothing ! $ fjoin ! $
    returns ! (look_at ! 0 refl) $ free_all ! refl $
    keep ! (3 ∷ 0 ∷ 2 ∷ 1 ∷ []) $ by ! (leaves 𝓛 E stays c z (unboxed_val h' b' o') (record { alloc = a; place = block_ptr b' o'; value = boxed.value }) ((tt, (tt, tt)), tt) (tt, tt)))))))))))
