-- How the nodes of a list are linked, and what they own.
use Rattle.std.specs.Prelude.{◌≡◌, ℕ, zero, suc, List, [], ◌∷◌, map, slice_index_or}
use base.Stored.{Coded-set}
use base.Fml.{Lft, Fml, ftrue, fsep}
use denote.Sharing.{nothing, beside}
use denote.Struct.Lending.{lent_at}
use denote.RawPtr.{Ptr, coded_ptr}
use Rattle.std.specs.declared.alloc.Global.{Global}
use Rattle.std.specs.contracts.impls.GlobalAllocator.TheImpl.{ghosts}
use Rattle.std_alloc.specs.Box.Ownership.{box_owns}
use Rattle.ifl_mbuf.specs.declared.node.Node.{Node}
use Rattle.ifl_mbuf.specs.declared.node.Body.{Body}
use Rattle.ifl_mbuf.specs.contracts.node.Node.{the_row}

-- where a node lies, and the node
abbrev pub Placed : Type 0
Placed = Ptr × Node

-- what the nodes hold
abbrev pub bodies : List Placed → List Body
bodies = map (λ n. n.1.body)

-- first leads to the first node, each `next` but the last to the node after it, and last to the last
abbrev pub IsLinked : Ptr → Ptr → List Placed → Type 0
IsLinked first last [] = Unit {0}
IsLinked first last (n ∷ []) = (first ≡ n.0) × (last ≡ n.0)
IsLinked first last (n ∷ m ∷ ns) = (first ≡ n.0) × IsLinked n.1.next.ptr last (m ∷ ns)

pub is_linked_prop : (first last : Ptr) (ns : List Placed) → IsProp (IsLinked first last ns)
is_linked_prop first last [] = hlevel
is_linked_prop first last (n ∷ []) = hlevel (Coded-set coded_ptr)
is_linked_prop first last (n ∷ m ∷ ns) = hlevel (Coded-set coded_ptr, is_linked_prop n.1.next.ptr last (m ∷ ns))

-- each node in its place, with the right to free it
abbrev pub nodes_own : Global → List Placed → Fml
nodes_own a [] = ftrue
nodes_own a (n ∷ ns) = fsep (box_owns (ghosts.dealloc_token a) the_row n.0 n.1) (nodes_own a ns)

-- what a `&` to the list has of the nodes
abbrev pub nodes_lent : List Placed → Lft → Fml
nodes_lent [] = nothing
nodes_lent (n ∷ ns) = beside (lent_at the_row n.0 n.1) (nodes_lent ns)

-- where the i-th node lies, or where the last leads
abbrev pub place_of : Ptr → List Placed → ℕ → Ptr
place_of p [] i = p
place_of p (n ∷ ns) zero = n.0
place_of p (n ∷ ns) (suc i) = place_of n.1.next.ptr ns i

-- the i-th of the bodies
abbrev pub body_of : List Body → ℕ → Body → Body
body_of bs i d = slice_index_or bs i d
