-- What a row of nodes owns, cut at its last node and put together. Assumes `Logic`.
use Rattle.std.proofs.Common.{List, [], ◌∷◌, ◌++◌}
use seplogic.Ra.Ura.{Ura}
use base.Logic.{ent, sep}
use types.Logic.{Logic, sem}
use types.Kit.{‵, ◌⊛◌, ◌$◌, ◌∵◌, !, qed, move, drop, use1, use2, split, fsplit, fjoin, done}
use denote.Steps.{nothing}
use Rattle.std.specs.declared.alloc.Global.{Global}
use Rattle.ifl_mbuf.specs.Nodes.{Placed, nodes_own}

module _ {M : Type 1} {𝓤 : Ura M} (𝓛 : Logic 𝓤) (a : Global) where
  pub row_cut : (ns ms : List Placed) → ent 𝓤 (sem 𝓛 (nodes_own a (ns ++ ms))) (sep 𝓤 (sem 𝓛 (nodes_own a ns)) (sem 𝓛 (nodes_own a ms)))
  row_cut [] ms = qed 𝓛 (‵ (nodes_own a ms) ∷ []) ∵ nothing ! $ done !
  row_cut (n ∷ ns) ms = qed 𝓛 (‵ (nodes_own a (n ∷ ns ++ ms)) ∷ []) ∵ fsplit ! $ move ! (1 ∷ []) $ use1 𝓛 (‵ (nodes_own a ns) ⊛ ‵ (nodes_own a ms)) (row_cut ns ms) $ split ! $ move ! (2 ∷ 0 ∷ []) $ fjoin ! $ done !

  pub row_joined : (ns ms : List Placed) → ent 𝓤 (sep 𝓤 (sem 𝓛 (nodes_own a ns)) (sem 𝓛 (nodes_own a ms))) (sem 𝓛 (nodes_own a (ns ++ ms)))
  row_joined [] ms = qed 𝓛 (‵ (nodes_own a []) ∷ ‵ (nodes_own a ms) ∷ []) ∵ drop ! $ done !
  row_joined (n ∷ ns) ms = qed 𝓛 (‵ (nodes_own a (n ∷ ns)) ∷ ‵ (nodes_own a ms) ∷ []) ∵ fsplit ! $ move ! (1 ∷ 2 ∷ []) $ use2 𝓛 (‵ (nodes_own a (ns ++ ms))) (row_joined ns ms) $ move ! (1 ∷ 0 ∷ []) $ fjoin ! $ done !
