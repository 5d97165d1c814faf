-- The machine value of a box that was taken apart: its handle, and then its pointer. Assumes `Logic`.
use Rattle.std.proofs.Common.{◌≡◌, ℕ, List, [], ◌∷◌, ◌++◌, refl, ap, ◌∙◌}
use mathlib.Core.Bool.{true, ◌&&◌}
use lib.Dec.{T}
use seplogic.Ra.Ura.{Ura}
use mir.Syntax.{impl, tnil, dnil}
use mir.Raw.{raw as bare}
use mir.Val.{Val, vptr, vstruct, vcons, vnil, of_list, has_ty, WT}
use base.Logic.{never, fst∗}
use types.Logic.{Logic, sem}
use types.Kit.{Item, Goal, Seq, Step, step, ‵, ◌$◌, move, drop, fsplit, fjoin, fpick, fpack, feq_i, feq_l}
use denote.RattleType.{RattleType, Valss}
use denote.Builtin.{RawPtr}
use denote.Memory.{lone}
use denote.RawPtr.{Ptr, block_ptr, null_ptr, ptr_val, in_a_block}
use denote.Steps.{nothing}
use denote.Param.{layout}
use denote.Param.Laws.{Laws}
use denote.Struct.Struct.{within}
use denote.Struct.Owning.{shape}
use denote.Struct.Tuple.{Tuple}
use Rattle.core.specs.declared.alloc.Allocator.{Ghosts}
use Rattle.core.proofs.alloc.Calls.{Al, handle_tells}
use Rattle.core.proofs.cell.Inside.{Good}
use Rattle.std_alloc.specs.Box.Ownership.{box_owns}
use Rattle.std_alloc.proofs.Pairs.{pair_val}
use Rattle.std_alloc.proofs.ResultValues.{and_tt}
use Rattle.ifl_mbuf.specs.contracts.unboxed.Unboxed as unboxed

-- the handle h, and the block b at the offset o
abbrev pub unboxed_val : Val → ℕ → ℕ → Val
unboxed_val h b o = vstruct (vcons h (vcons (vptr b o) vnil))

module _ (R Z : RattleType) (L : Laws Z) (g : Ghosts Z.Denot) where
  abbrev pub Apart : RattleType
  Apart = unboxed.the_row R Z g

  abbrev handle : Al
  handle = record { row = Z; laws = L; g = g; d = impl [] tnil dnil; drops = impl [] tnil dnil }

  pub unboxed_good : (h : Val) (b o : ℕ) → Good (layout Z) h → T (has_ty (layout Z) h && true) × WT (unboxed_val h b o)
  unboxed_good h b o fits = (and_tt (has_ty (layout Z) h) fits.0, (fits.1, (tt, tt)))

  -- the same of a pointer before its handle, as a box and a pair have them
  pub pair_good : (b o : ℕ) (h : Val) → Good (layout Z) h → T (has_ty (layout Z) h && true) × WT (pair_val (vptr b o) h)
  pair_good b o h fits = (and_tt (has_ty (layout Z) h) fits.0, (tt, (fits.1, tt)))

  module _ {M : Type 1} {𝓤 : Ura M} {𝓛 : Logic 𝓤} {K : Type 0} {Γ : List (Item 𝓤)} {G : Goal 𝓤 𝓛.H} where
    -- nothing that is to be freed lies at null
    pub in_block : K → (a : Z.Denot) (p : Ptr) (x : R.Denot) → ((b o : ℕ) → p ≡ block_ptr b o → Seq K 𝓛 (‵ (box_owns (g.dealloc_token a) R (block_ptr b o) x) ∷ Γ) G)
        → Seq K 𝓛 (‵ (box_owns (g.dealloc_token a) R p x) ∷ Γ) G
    in_block t a p x k = in_a_block t p (λ q. box_owns (g.dealloc_token a) R q x) (fst∗ 𝓤 (never 𝓤) (sem 𝓛 (g.dealloc_token a (bare (lone R.mir)) null_ptr))) k

    -- a pointer and a handle in a pair leave the handle
    pub parts_out : K → (r : Ptr × Z.Denot) (us : List Val) → ((h : Val) → us ≡ pair_val (ptr_val r.0) h ∷ [] → Good (layout Z) h → Seq K 𝓛 (‵ (Z.own_val r.1 (h ∷ [])) ∷ Γ) G)
        → Seq K 𝓛 (‵ ((Tuple (RawPtr ∷ Z ∷ [])).own_val r us) ∷ Γ) G
    parts_out t r us k =
        fpick t (λ vss. fsplit t $ feq_l t (λ pair. fsplit t $ feq_l t (λ pointer. fsplit t $ handle_tells handle t r.1 vss.1.0 (λ h is fits. move t (1 ∷ []) $ drop t $
        k h (pair ∙ (λ i. vstruct (of_list (pointer i ++ (is i ++ []))) ∷ [])) fits))))

  module _ {M : Type 1} {𝓤 : Ura M} {𝓛 : Logic 𝓤} {K : Type 0} {Γ : List (Item 𝓤)} {G : Goal 𝓤 𝓛.H} where
    -- [the handle; the value with the right to free it]
    pub unboxed_out : K → (d : Apart.Denot) (vs : List Val)
        → ((h : Val) (b o : ℕ) → d.place ≡ block_ptr b o → vs ≡ unboxed_val h b o ∷ [] → Good (layout Z) h → Seq K 𝓛 (‵ (Z.own_val d.alloc (h ∷ [])) ∷ ‵ (box_owns (g.dealloc_token d.alloc) R (block_ptr b o) d.value) ∷ Γ) G)
        → Seq K 𝓛 (‵ (Apart.own_val d vs) ∷ Γ) G
    unboxed_out t d vs k =
        fsplit t $ fpick t (λ vss. fsplit t $ feq_l t (λ fields. fsplit t $ handle_tells handle t d.alloc vss.0 (λ h is fits. move t (1 ∷ []) $ fsplit t $ feq_l t (λ pointer. drop t $ move t (1 ∷ []) $
        in_block t d.alloc d.place d.value (λ b o e. move t (1 ∷ []) $
        k h b o e (fields ∙ ((λ i. vstruct (of_list (is i ++ (pointer i ++ []))) ∷ []) ∙ ap (λ (p : Ptr). vstruct (vcons h (vcons (ptr_val p) vnil)) ∷ []) e)) fits)))))

    pub unboxed_in : K → (h : Val) (b o : ℕ) (a : Z.Denot) (x : R.Denot)
        → Step K 𝓛 (‵ (Apart.own_val (record { alloc = a; place = block_ptr b o; value = x }) (unboxed_val h b o ∷ [])) ∷ Γ) G (‵ (Z.own_val a (h ∷ [])) ∷ ‵ (box_owns (g.dealloc_token a) R (block_ptr b o) x) ∷ Γ) G
    unboxed_in t h b o a x = step (λ s. let v : Val = unboxed_val h b o in
        nothing t $ feq_i t (List Val) (vptr b o ∷ []) (vptr b o ∷ []) refl $ fjoin t $ move t (1 ∷ 0 ∷ []) $ fjoin t $ feq_i t (List Val) (v ∷ []) (v ∷ []) refl $ fjoin t $
        fpack t (Valss (Z ∷ RawPtr ∷ [])) (within (shape (unboxed.the_type R Z g)) (a, (block_ptr b o, tt)) (v ∷ [])) (h ∷ [], (vptr b o ∷ [], tt)) $ fjoin t $ s)
