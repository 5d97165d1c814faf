-- The nodes of a list that may be empty.
use Rattle.std.specs.Prelude.{◌≡◌, ◌<◌, List, [], length}
use Rattle.ifl_mbuf.specs.declared.node.Body.{Body}
use Rattle.ifl_mbuf.specs.declared.nodes.Links.{Links}
use Rattle.ifl_mbuf.specs.declared.nodes.Links.TheVariants.{Empty, Linked}
use Rattle.ifl_mbuf.specs.Nodes.{bodies}

-- what its nodes hold
abbrev pub bodies_of : Links → List Body
bodies_of Empty = []
bodies_of (Linked count run) = bodies run.nodes

-- a run that is there has a node, and its number is known
abbrev pub IsCounted : Links → Type 0
IsCounted Empty = Unit {0}
IsCounted (Linked count run) = (count ≡ length (bodies run.nodes)) × (0 < count)

-- it has no run
abbrev pub IsEmpty : Links → Type 0
IsEmpty Empty = Unit {0}
IsEmpty (Linked count run) = ⊥
