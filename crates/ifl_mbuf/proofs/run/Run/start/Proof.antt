-- `start` reads through a `&`. Assumes `Logic`.
use Rattle.std.proofs.Common.{◌≡◌, ◌+◌, List, [], ◌∷◌, ◌++◌, refl}
use mir.Syntax.{named}
use mir.Val.{Val, vptr}
use base.Logic.{SProp, emp}
use base.Fml.{ftrue, flft}
use prog.Wp.{WpFn}
use contract.Monad.{fact, fact_i}
use contract.Running.{tables}
use types.Kit.{‵, raw, ◌⊛◌, prop, ◌$◌, ◌∵◌, !, qed, by, move, keep, drop, split, join, fsplit, fjoin, feq_l, regoal, rewrite, use0}
use types.Run.{stop, fld, load, look_raw, of_opd, returns, enter}
use types.ByLocal.{alloc_all, pass_all, free_all, look_at, through, sets}
use denote.RattleType.{owns}
use denote.Memory.{cell_at}
use denote.Ref.{ShrRef}
use denote.Builtin.{RefOf}
use denote.Opens.{unhide, hide}
use denote.Signature.{plain}
use denote.Steps.{nothing, looks, shuts}
use denote.Triple.Walked.{Stays, stay_dropped, walk_of, Goes-dropped}
use Rattle.std.proofs.raw_atomic.Walks.{proved_at, leaves}
use Rattle.ifl_mbuf.proofs.Linked.{start_is}
use Rattle.ifl_mbuf.specs.Nodes.{place_of}
use Rattle.ifl_mbuf.proofs.PlaceSteps.{P, word, word_typed, place_in, place_out}
use Rattle.ifl_mbuf.proofs.node.Place.TheLaws as place_laws
use Rattle.ifl_mbuf.specs.contracts.run.Run as run
use Rattle.ifl_mbuf.specs.contracts.run.Run.start.{ended, clauses}
use Rattle.ifl_mbuf.specs.contracts.run.Run.start.Key.{name as #self}
use Rattle.ifl_mbuf.proofs.run.Run.start.Statement.{statement}
use Rattle.ifl_mbuf.proofs.run.Run.start.Code as code

pub start_spec : {M : Type 1} → statement M
start_spec {M} 𝓤 𝓛 𝓜 𝓡 wired =
    let H = 𝓛.H in let 𝓣 = tables 𝓤 H 𝓜 𝓡 𝓡.env in let c = clauses 𝓛 𝓜.mem 𝓡.returns in let fn = code.function in
    let hs : Stays ended.signature.params ended.kept = (stay_dropped (RefOf (0 ∷ []) tt (plain (λ _. run.the_row)) (λ _. tt)) ended.kept.0, tt) in
    proved_at 𝓛 ended hs c 𝓜 𝓡 (Goes-dropped 𝓛 1 (RefOf (0 ∷ []) tt (plain (λ _. run.the_row)) (λ _. tt)) ended.kept.0 (λ κs x f. refl), tt) #self fn (code.unfolded 𝓤 H 𝓜 𝓡 wired) (λ z are.
    let κ = z.0.0.0 in let q = z.0.1.0 in let d = z.0.3.0.now in let b = z.0.3.0.ref_ptr.0 in let o = z.0.3.0.ref_ptr.1 in let Post : Val → SProp 𝓤 = (walk_of 𝓛 ended hs c).post z in
    qed 𝓛 (((‵ (flft κ q) ⊛ ‵ ftrue) ⊛ ‵ (owns (ShrRef (named 0) κ run.the_row ∷ []) z.0.3 z.0.4)) ∷ ‵ ftrue ∷ []) ∵ split ! $ split ! $ move ! (2 ∷ []) $ fsplit ! $ fsplit ! $ feq_l ! (λ e.
    regoal ! (λ (us : List Val). prop (WpFn 𝓤 H 𝓣.C 𝓣.Λ fn us Post)) (λ i. e i ++ []) refl $
    enter ! 𝓣.C 𝓣.Λ fn (vptr b o ∷ []) Post $ alloc_all ! (λ l. pass_all ! refl ((tt, tt), tt) $
    -- [what a `&` to the list has; the token]
    unhide ! $ fsplit ! $ move ! (1 ∷ []) $ drop ! $ fsplit ! $ move ! (1 ∷ []) $ drop ! $ fsplit ! $ move ! (1 ∷ []) $ drop ! $ hide ! $
    move ! (0 ∷ 2 ∷ []) $ looks ! tt P (place_laws.the_row_copy.copied M 𝓤 𝓛).opens d.first b (o + 0) (λ part vs. move ! (1 ∷ []) $ place_out ! d.first vs (λ is.
    rewrite ! 0 (λ (us : List Val). ‵ (cell_at part P.mir us b (o + 0))) is refl $
    -- [the word; the way back; the `&`]
    sets ! (of_opd ! (load ! (through ! refl (fld ! refl (stop !))) (look_raw ! 0 refl))) refl (word_typed d.first.ptr) $
    place_in ! d.first $ move ! (1 ∷ 0 ∷ []) $ shuts ! tt P part d.first (word d.first.ptr ∷ []) b (o + 0) $
    returns ! (look_at ! 0 refl) $ free_all ! refl $
    -- [the token; the `&`; true ..]
    place_in ! d.first $ let Said : Type 0 = d.first.ptr ≡ place_of d.first.ptr d.nodes 0 in
    use0 𝓛 (raw (fact 𝓤 Said)) (fact_i 𝓤 Said (emp 𝓤) (start_is d.first.ptr d.last.ptr d.nodes d.linked)) $ nothing ! $ nothing ! $ fjoin ! $
    keep ! (3 ∷ 5 ∷ 0 ∷ 2 ∷ 1 ∷ []) $ join ! $ by ! (leaves 𝓛 ended hs c z (word d.first.ptr) d.first (tt, tt) (tt, tt)))))))
