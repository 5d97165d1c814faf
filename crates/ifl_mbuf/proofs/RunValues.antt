-- The machine values of a `Run`. Assumes `Logic`.
use Rattle.std.proofs.Common.{◌≡◌, List, [], ◌∷◌, ◌++◌, refl, subst, lit<}
use seplogic.Ra.Ura.{Ura}
use mir.Syntax.{impl, tnil, dnil}
use mir.Val.{Val, vstruct, vcons, vnil, of_list, has_ty}
use types.Logic.{Logic}
use types.Kit.{Item, Goal, Seq, Step, step, ‵, ◌$◌, move, drop, fsplit, fjoin, fpick, fpack, feq_i, feq_l}
use denote.RattleType.{RattleType, Valss}
use denote.RawPtr.{Ptr, block_ptr, null_ptr}
use Rattle.ifl_mbuf.proofs.PlaceSteps.{word, place_out, place_in}
use denote.Steps.{nothing}
use denote.Param.{layout}
use denote.Param.Laws.{Laws}
use denote.Struct.Struct.{within}
use denote.Struct.Owning.{shape, to}
use Rattle.core.proofs.alloc.Calls.{Al, handle_tells}
use Rattle.core.proofs.cell.Inside.{Good}
use Rattle.std_alloc.proofs.ResultValues.{and_tt}
use Rattle.std.specs.contracts.impls.GlobalAllocator.TheImpl.{ghosts}
use Rattle.std_heap.specs.contracts.Global as global
use Rattle.std_heap.proofs.Global.TheLaws as global_laws
use Rattle.ifl_mbuf.specs.declared.run.Run.{Run}
use Rattle.ifl_mbuf.specs.contracts.run.Run as run
use Rattle.ifl_mbuf.specs.Nodes.{nodes_own}

abbrev pub Heap : RattleType
Heap = global.the_row

abbrev pub heap_laws : Laws Heap
heap_laws = global_laws.the_row_laws

abbrev pub Handle : Val → Type 0
Handle h = Good (layout Heap) h

abbrev al : Al
al = record { row = Heap; laws = heap_laws; g = ghosts; d = impl [] tnil dnil; drops = impl [] tnil dnil }

abbrev pub run_val : Ptr → Ptr → Val → Val
run_val p q h = vstruct (vcons (word p) (vcons (word q) (vcons h vnil)))

pub run_good : (p q : Ptr) (h : Val) → Handle h → Good (layout run.the_row) (run_val p q h)
run_good (block_ptr b o) (block_ptr c u) h f = (and_tt (has_ty (layout Heap) h) f.0, ((tt, tt), ((tt, tt), (f.1, tt))))
run_good (block_ptr b o) null_ptr h f = (and_tt (has_ty (layout Heap) h) f.0, ((tt, tt), ((record { fits = lit< tt }, tt), (f.1, tt))))
run_good null_ptr (block_ptr c u) h f = (and_tt (has_ty (layout Heap) h) f.0, ((record { fits = lit< tt }, tt), ((tt, tt), (f.1, tt))))
run_good null_ptr null_ptr h f = (and_tt (has_ty (layout Heap) h) f.0, ((record { fits = lit< tt }, tt), ((record { fits = lit< tt }, tt), (f.1, tt))))

module _ {M : Type 1} {𝓤 : Ura M} {𝓛 : Logic 𝓤} {K : Type 0} {Γ : List (Item 𝓤)} {G : Goal 𝓤 𝓛.H} where
  -- [the nodes; the handle]
  pub run_out : K → (d : Run) (vs : List Val)
      → ((h : Val) → vs ≡ run_val d.first.ptr d.last.ptr h ∷ [] → Handle h → Seq K 𝓛 (‵ (nodes_own d.alloc d.nodes) ∷ ‵ (Heap.own_val d.alloc (h ∷ [])) ∷ Γ) G)
      → Seq K 𝓛 (‵ (run.the_row.own_val d vs) ∷ Γ) G
  run_out t d vs k =
      fsplit t $ fpick t (λ vss. fsplit t $ feq_l t (λ ev. fsplit t $ place_out t d.first vss.0 (λ ep. fsplit t $ place_out t d.last vss.1.0 (λ eq. fsplit t $ handle_tells al t d.alloc vss.1.1.0 (λ h ea fits. move t (1 ∷ []) $ drop t $ move t (1 ∷ []) $
      k h (subst (λ (ws : List Val). vs ≡ vstruct (of_list (word d.first.ptr ∷ (word d.last.ptr ∷ (ws ++ [])))) ∷ []) ea
      (subst (λ (qs : List Val). vs ≡ vstruct (of_list (word d.first.ptr ∷ (qs ++ (vss.1.1.0 ++ [])))) ∷ []) eq
      (subst (λ (ps : List Val). vs ≡ vstruct (of_list (ps ++ (vss.1.0 ++ (vss.1.1.0 ++ [])))) ∷ []) ep ev))) fits)))))

  pub run_in : K → (d : Run) (h : Val)
      → Step K 𝓛 (‵ (run.the_row.own_val d (run_val d.first.ptr d.last.ptr h ∷ [])) ∷ Γ) G (‵ (nodes_own d.alloc d.nodes) ∷ ‵ (Heap.own_val d.alloc (h ∷ [])) ∷ Γ) G
  run_in t d h = step (λ s. let v : Val = run_val d.first.ptr d.last.ptr h in
      nothing t $ move t (2 ∷ 0 ∷ []) $ fjoin t $ place_in t d.last $ fjoin t $ place_in t d.first $ fjoin t $
      feq_i t (List Val) (v ∷ []) (v ∷ []) refl $ fjoin t $
      fpack t (Valss (shape run.the_type).fields) (within (shape run.the_type) (to run.the_type d) (v ∷ [])) (word d.first.ptr ∷ [], (word d.last.ptr ∷ [], (h ∷ [], tt))) $ fjoin t $ s)
