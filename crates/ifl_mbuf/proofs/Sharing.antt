-- A `&` to a list is made where one to each node is. Assumes `Logic`.
use Rattle.std.proofs.Common.{ℕ, zero, suc, ◌<◌, List, [], ◌∷◌, length, arith}
use base.Logic.{ent, via, fst∗, snd∗}
use types.Logic.{sem}
use Rattle.ifl_mbuf.proofs.Linked.{node_at}
use seplogic.Ra.Ura.{Ura}
use base.Fraction.{full_share}
use base.Fml.{Lft, ftrue}
use contract.BorrowLft.{⊑_static}
use mir.Raw.{raw as bare}
use types.Logic.{Logic}
use denote.Memory.{lone}
use denote.RawPtr.{lies_at}
use denote.Sharing.{ShrLaws}
use denote.SharingLaws.{beside_shr_laws, nothing_shr_laws}
use denote.Shares.{Shares-less}
use denote.Struct.Lending.{lent_at, lent_at_shr_laws, Lends, Lends-lies, Lends-first, Lends-both, Lends-nothing}
use Rattle.std.specs.declared.alloc.Global.{Global}
use Rattle.std.specs.contracts.impls.GlobalAllocator.TheImpl.{ghosts}
use Rattle.std_alloc.specs.Box.Ownership.{box_owns}
use Rattle.ifl_mbuf.specs.Nodes.{Placed, nodes_own, nodes_lent}
use Rattle.ifl_mbuf.specs.contracts.node.Node.{the_row as R}
use Rattle.ifl_mbuf.proofs.node.Node.TheLaws.{the_row_laws as L}

pub nodes_lent_laws : (ns : List Placed) → ShrLaws (nodes_lent ns)
nodes_lent_laws [] = nothing_shr_laws
nodes_lent_laws (n ∷ ns) = beside_shr_laws _ _ (lent_at_shr_laws R L.shr_laws n.0 n.1) (nodes_lent_laws ns)

module _ {M : Type 1} {𝓤 : Ura M} (𝓛 : Logic 𝓤) (l : Lft) (a : Global) where
  pub Lends-nodes : (ns : List Placed) → Lends 𝓛 (nodes_own a ns) (nodes_lent ns) l
  Lends-nodes [] = Lends-nothing 𝓛 ftrue l
  Lends-nodes (n ∷ ns) =
      Lends-both 𝓛 (box_owns (ghosts.dealloc_token a) R n.0 n.1) (nodes_own a ns) (lent_at R n.0 n.1) (nodes_lent ns) l
      (Lends-first 𝓛 (lies_at R full_share n.0 n.1) (ghosts.dealloc_token a (bare (lone R.mir)) n.0) (lent_at R n.0 n.1) l
      (Lends-lies 𝓛 R l n.0 n.1 (Shares-less 𝓛 R [] l (⊑_static l) (L.shares 𝓛) n.1)))
      (Lends-nodes ns)

module _ {M : Type 1} {𝓤 : Ura M} (𝓛 : Logic 𝓤) (κ : Lft) where
  pub lent_node : (ns : List Placed) (i : ℕ) (d : Placed) → i < length ns → ent 𝓤 (sem 𝓛 (nodes_lent ns κ)) (sem 𝓛 (lent_at R (node_at ns i d).0 (node_at ns i d).1 κ))
  lent_node [] i d s = absurd (omega arith)
  lent_node (n ∷ ns) zero d s = fst∗ 𝓤 _ (sem 𝓛 (nodes_lent ns κ))
  lent_node (n ∷ ns) (suc i) d s = via 𝓤 _ (snd∗ 𝓤 (sem 𝓛 (lent_at R n.0 n.1 κ)) _) (lent_node ns i d (omega arith))
