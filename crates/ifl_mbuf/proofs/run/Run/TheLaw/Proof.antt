-- A `&` to the list reaches each node. Assumes `Logic`.
use denote.Param.Shared.{copy_shared}
use denote.Struct.Lending.{of_Lends}
use Rattle.std_heap.specs.contracts.Global as global
use Rattle.std_heap.proofs.Global.TheLaws as global_laws
use Rattle.ifl_mbuf.specs.contracts.node.Place as place
use Rattle.ifl_mbuf.proofs.node.Place.TheLaws as place_laws
use Rattle.ifl_mbuf.specs.contracts.run.Run as C
use Rattle.ifl_mbuf.proofs.run.Run.TheLaw.Statement.{statement}
use Rattle.ifl_mbuf.proofs.Sharing.{nodes_lent_laws, Lends-nodes}

pub shares : statement
shares = of_Lends C.struct (C.the_codes (place.the_row).coded (global.the_row).coded) C.the_heap C.the_lent (λ d p. nodes_lent_laws d.nodes)
    (copy_shared place.the_field place_laws.the_field_copy, (copy_shared place.the_field place_laws.the_field_copy, (copy_shared global.the_field global_laws.the_field_copy, tt)))
    (λ M 𝓤 𝓛 d p. Lends-nodes 𝓛 (C.the_row).lives d.alloc d.nodes)
