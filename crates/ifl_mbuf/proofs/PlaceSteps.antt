-- The machine value of a place. Assumes `Logic`.
use Rattle.std.proofs.Common.{◌≡◌, List, [], ◌∷◌, refl, lit<, T}
use seplogic.Ra.Ura.{Ura}
use mir.Syntax.{ty_ptr}
use mir.Val.{Val, vstruct, vcons, vnil, has_ty, WT}
use types.Logic.{Logic}
use types.Kit.{Item, Goal, Seq, Step, ‵, ◌$◌, drop}
use denote.RattleType.{RattleType}
use denote.Laws.{Is, shows}
use denote.Param.{layout}
use denote.RawPtr.{Ptr, block_ptr, null_ptr, ptr_val}
use denote.Steps.{peeks, owned}
use denote.Struct.Laws as LL
use Rattle.core.proofs.cell.Inside.{Good}
use Rattle.ifl_mbuf.specs.declared.node.Place.{Place}
use Rattle.ifl_mbuf.specs.contracts.node.Place as place
use Rattle.ifl_mbuf.proofs.node.Place.TheLaws as laws

abbrev pub P : RattleType
P = place.the_row

abbrev pub word : Ptr → Val
word p = vstruct (vcons (ptr_val p) vnil)

pub ptr_typed : (p : Ptr) → T (has_ty ty_ptr (ptr_val p)) × WT (ptr_val p)
ptr_typed (block_ptr b o) = (tt, tt)
ptr_typed null_ptr = (tt, record { fits = lit< tt })

pub word_typed : (p : Ptr) → Good (layout P) (word p)
word_typed (block_ptr b o) = (tt, (tt, tt))
word_typed null_ptr = (tt, (record { fits = lit< tt }, tt))

pub place_is : (p : Place) → Is P p (word p.ptr ∷ [])
place_is p = LL.owes place.the_type laws.the_laws p (refl, tt)

module _ {M : Type 1} {𝓤 : Ura M} {𝓛 : Logic 𝓤} {K : Type 0} {Γ : List (Item 𝓤)} {G : Goal 𝓤 𝓛.H} where
  pub place_out : K → (p : Place) (vs : List Val) → (vs ≡ word p.ptr ∷ [] → Seq K 𝓛 Γ G) → Seq K 𝓛 (‵ (P.own_val p vs) ∷ Γ) G
  place_out t p vs k = peeks t P (Is P) (shows 𝓛 P) p vs (λ is. drop t $ k (laws.lowers.val_is p vs is))

  pub place_in : K → (p : Place) → Step K 𝓛 (‵ (P.own_val p (word p.ptr ∷ [])) ∷ Γ) G Γ G
  place_in t p = owned t P (Is P) ((LL.makes place.the_type laws.the_plain) 𝓛) p (word p.ptr ∷ []) (place_is p)
