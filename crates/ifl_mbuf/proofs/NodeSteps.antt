-- A node in memory is its machine value, and is so again with another `next`. Assumes `Logic`.
use Rattle.std.proofs.Common.{◌≡◌, ℕ, List, [], ◌∷◌, refl, sym, ap, lit<, T}
use seplogic.Ra.Ura.{Ura}
use base.Fraction.{full_share}
use base.Fml.{fat}
use mir.Syntax.{Ty}
use mir.Val.{Val}
use types.Logic.{Logic}
use types.Kit.{Item, Goal, Seq, Step, step, ‵, ◌⊛◌, some, ◌$◌, move, drop, split, pick, use1, use2, rewrite}
use borrow.Table.OneValue.{part_out, part_in}
use denote.RattleType.{RattleType}
use denote.Laws.{Is, shows}
use denote.Memory.{part_at, lone}
use denote.Steps.{peeks, owned, only}
use Rattle.ifl_mbuf.specs.declared.node.Place.{Place}
use Rattle.ifl_mbuf.proofs.PlaceSteps.{place_is}
use denote.Struct.Laws as LL
use Rattle.ifl_mbuf.specs.declared.node.Node.{Node}
use Rattle.ifl_mbuf.specs.contracts.node.Node as node
use Rattle.ifl_mbuf.proofs.node.Node.TheLaws as laws

abbrev pub R : RattleType
R = node.the_row

abbrev pub node_ty : Ty
node_ty = lone R.mir

abbrev pub node_val : Node → Val
node_val n = laws.lowers.lowered n

-- n with its `next` at q
abbrev pub led : Node → Place → Node
led n q = record { next = q; body = n.body }

pub led_is : (n : Node) (q : Place) → Is R n (node_val n ∷ []) → Is R (led n q) (node_val (led n q) ∷ [])
led_is n q is = LL.owes node.the_type laws.the_laws (led n q) (place_is q, (LL.owed node.the_type laws.the_laws n (node_val n ∷ []) is).1)

module _ {M : Type 1} {𝓤 : Ura M} {𝓛 : Logic 𝓤} {K : Type 0} {Γ : List (Item 𝓤)} {G : Goal 𝓤 𝓛.H} where
  pub node_out : K → (n : Node) (b o : ℕ) → (Is R n (node_val n ∷ []) → Seq K 𝓛 (‵ (fat full_share node_ty b o (node_val n)) ∷ Γ) G)
      → Seq K 𝓛 (‵ (part_at R full_share n b o) ∷ Γ) G
  node_out t n b o k =
      use1 𝓛 (some (λ (v : Val). ‵ (fat full_share node_ty b o v) ⊛ ‵ (R.own_val n (v ∷ [])))) (part_out 𝓛 R refl full_share n b o) $ pick t (λ v. split t $ move t (1 ∷ []) $
      peeks t R (Is R) (shows 𝓛 R) n (v ∷ []) (λ is. drop t $ let e = laws.lowers.val_is n (v ∷ []) is in
      rewrite t 0 (λ (w : Val). ‵ (fat full_share node_ty b o w)) (ap only e) refl $ k (Rattle.std.proofs.Common.subst (λ (ws : List Val). Is R n ws) e is)))

  pub node_in : K → (n : Node) (b o : ℕ) → Is R n (node_val n ∷ [])
      → Step K 𝓛 (‵ (part_at R full_share n b o) ∷ Γ) G (‵ (fat full_share node_ty b o (node_val n)) ∷ Γ) G
  node_in t n b o is = step (λ s.
      owned t R (Is R) ((LL.makes node.the_type laws.the_plain) 𝓛) n (node_val n ∷ []) is $ move t (1 ∷ 0 ∷ []) $ use2 𝓛 (‵ (part_at R full_share n b o)) (part_in 𝓛 R refl full_share n b o (node_val n)) $ s)
