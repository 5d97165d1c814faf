-- A list of nodes may cross threads.
use Rattle.std.specs.Prelude.{List, [], ◌∷◌}
use base.Shift.{Keyless}
use denote.Struct.Struct.{exits_of}
use denote.Struct.Owning.{shape, fields, to}
use denote.Param.Send.{IsSend, IsSync, Common, AllSend, owning_send, struct_send, struct_sync}
use Rattle.std.specs.declared.alloc.Global.{Global}
use Rattle.std_alloc.proofs.SendSync.{quiet, lies, seen}
use Rattle.std_heap.proofs.GlobalAllocator.TheSendSync.{the_frees}
use Rattle.ifl_mbuf.specs.Nodes.{Placed, nodes_own, nodes_lent}
use Rattle.ifl_mbuf.specs.contracts.node.Node.{the_row as R}
use Rattle.ifl_mbuf.proofs.node.Node.TheSendSync.{the_send as node_send, the_sync as node_sync}
use Rattle.ifl_mbuf.proofs.node.Place.TheSendSync as place_crosses
use Rattle.std_heap.proofs.Global.TheSendSync as global_crosses
use Rattle.ifl_mbuf.specs.contracts.run.Run as run

nodes-Keyless : (a : Global) (ns : List Placed) → Keyless (nodes_own a ns)
nodes-Keyless a [] = tt
nodes-Keyless a (n ∷ ns) = ((lies R node_send n.0 n.1, the_frees.frees a _ n.0), nodes-Keyless a ns)

nodes_lent-Common : (ns : List Placed) → Common (nodes_lent ns)
nodes_lent-Common [] κ = tt
nodes_lent-Common (n ∷ ns) κ = (seen R node_sync n.0 n.1 κ, nodes_lent-Common ns κ)

pub Run-send : IsSend run.the_row
Run-send =
    let O = run.the_type in let all : AllSend (fields O) = (place_crosses.the_field_send, (place_crosses.the_field_send, (global_crosses.the_field_send, tt))) in
    owning_send O all (λ d. nodes-Keyless d.alloc d.nodes) (λ k. quiet (to O) (exits_of k (fields O)) ((struct_send (shape O) all).leaving k))

pub Run-sync : IsSync run.the_row
Run-sync = let O = run.the_type in record { shared = λ d b o κ. ((struct_sync (shape O) (place_crosses.the_field_sync, (place_crosses.the_field_sync, (global_crosses.the_field_sync, tt)))).shared (to O d) b o κ, nodes_lent-Common d.nodes κ) }
