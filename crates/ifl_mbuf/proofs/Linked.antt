-- The parts of a list of nodes.
use Rattle.std.proofs.Common.{◌≡◌, ℕ, zero, suc, ◌+◌, ◌<◌, List, [], ◌∷◌, ◌++◌, length, refl, ap, ◌∙◌, arith}
use denote.RawPtr.{Ptr}
use Rattle.ifl_mbuf.specs.declared.node.Place.{Place}
use Rattle.ifl_mbuf.specs.Nodes.{Placed, IsLinked, bodies, place_of, body_of}

-- a list that has an element, as the first and the rest
pub split_first : {X : Type 0} (xs : List X) → 0 < length xs → (first : X) × (rest : List X) × (xs ≡ first ∷ rest)
split_first [] some = absurd (omega arith)
split_first (x ∷ xs) some = (x, xs, refl)

-- the same list, as the front and the last
pub split_last : {X : Type 0} (xs : List X) → 0 < length xs → (front : List X) × (last : X) × (xs ≡ front ++ last ∷ [])
split_last [] some = absurd (omega arith)
split_last (x ∷ []) some = ([], x, refl)
split_last (x ∷ y ∷ ys) some = let rest = split_last (y ∷ ys) (omega arith) in (x ∷ rest.0, rest.1, ap (λ l. x ∷ l) rest.2)

-- the list begins at its first node
pub first_is : (p q : Ptr) (n : Placed) (ns : List Placed) → IsLinked p q (n ∷ ns) → p ≡ n.0
first_is p q n [] l = l.0
first_is p q n (m ∷ ms) l = l.0

-- the nodes behind the first are linked from where it leads
pub rest_is : (p q : Ptr) (n : Placed) (ns : List Placed) → IsLinked p q (n ∷ ns) → IsLinked n.1.next.ptr q ns
rest_is p q n [] l = tt
rest_is p q n (m ∷ ms) l = l.1

-- the list ends at its last node
pub last_is : (p q : Ptr) (ns : List Placed) (n : Placed) → IsLinked p q (ns ++ n ∷ []) → q ≡ n.0
last_is p q [] n l = l.1
last_is p q (m ∷ []) n l = l.1.1
last_is p q (m ∷ k ∷ ks) n l = last_is m.1.next.ptr q (k ∷ ks) n l.1

-- two lists linked: n, the last of the first list, leads to the first node of the second
pub joined : (p q : Ptr) (ns : List Placed) (n : Placed) (r : Place) (s : Ptr) (m : Placed) (ms : List Placed) → IsLinked p q (ns ++ n ∷ []) → IsLinked r.ptr s (m ∷ ms)
    → IsLinked p s (ns ++ (n.0, record { next = r; body = n.1.body }) ∷ m ∷ ms)
joined p q [] n r s m ms l k = (l.0, k)
joined p q (x ∷ []) n r s m ms l k = (l.0, (l.1.0, k))
joined p q (x ∷ y ∷ ys) n r s m ms l k = (l.0, joined x.1.next.ptr q (y ∷ ys) n r s m ms l.1 k)

-- the link changes nothing of what the nodes hold
pub bodies_joined : (ns : List Placed) (n : Placed) (r : Place) (ms : List Placed) → bodies (ns ++ (n.0, record { next = r; body = n.1.body }) ∷ ms) ≡ bodies (ns ++ n ∷ []) ++ bodies ms
bodies_joined [] n r ms = refl
bodies_joined (x ∷ xs) n r ms = ap (λ l. x.1.body ∷ l) (bodies_joined xs n r ms)

-- the list's first place
pub start_is : (p q : Ptr) (ns : List Placed) → IsLinked p q ns → p ≡ place_of p ns 0
start_is p q [] l = refl
start_is p q (n ∷ []) l = l.0
start_is p q (n ∷ m ∷ ms) l = l.0

-- the i-th node, or else d
abbrev pub node_at : List Placed → ℕ → Placed → Placed
node_at [] i d = d
node_at (n ∷ ns) zero d = n
node_at (n ∷ ns) (suc i) d = node_at ns i d

-- the i-th node lies where the links lead
pub placed_is : (p q : Ptr) (ns : List Placed) (i : ℕ) (d : Placed) → i < length ns → place_of p ns i ≡ (node_at ns i d).0
placed_is p q [] i d s = absurd (omega arith)
placed_is p q (n ∷ ns) zero d s = refl
placed_is p q (n ∷ ns) (suc i) d s = placed_is n.1.next.ptr q ns i d (omega arith)

-- and it leads to the place of the next
pub next_is : (p q : Ptr) (ns : List Placed) (i : ℕ) (d : Placed) → i < length ns → IsLinked p q ns → (node_at ns i d).1.next.ptr ≡ place_of p ns (i + 1)
next_is p q [] i d s l = absurd (omega arith)
next_is p q (n ∷ ns) zero d s l = start_is n.1.next.ptr q ns (rest_is p q n ns l)
next_is p q (n ∷ ns) (suc i) d s l = let e : suc (i + 1) ≡ suc i + 1 = omega arith in next_is n.1.next.ptr q ns i d (omega arith) (rest_is p q n ns l) ∙ ap (λ k. place_of p (n ∷ ns) k) e

-- and it holds the i-th of the bodies
pub body_is : (ns : List Placed) (i : ℕ) (d : Placed) → i < length ns → (node_at ns i d).1.body ≡ body_of (bodies ns) i (node_at ns i d).1.body
body_is [] i d s = absurd (omega arith)
body_is (n ∷ ns) zero d s = refl
body_is (n ∷ ns) (suc i) d s = body_is ns i d (omega arith)
