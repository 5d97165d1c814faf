-- The step by which the consumer leaves an idle ring.
use Rattle.std.proofs.Common.{◌≡◌, ℕ, subst}
use mathlib.Core.Logic.{dite}
use native.Mathlib.Decide.{ℕ_discrete}
use Rattle.std.specs.Prelude.{Option, Some, None}
use Rattle.ifl_ringcore.specs.State.{Consumer}
use Rattle.std.proofs.Common.{eq-eqb}
use Rattle.ifl_ringcore.specs.State.{consumer_of}
use Rattle.std.proofs.Common.{ne_eqb}

-- the seat's drain in the state is the one that it knows
pub same_drain : (j : ℕ) (o : Option Consumer) (d : Consumer) → consumer_of j o ≡ Some d → (o ≡ Some d) × (d.seat ≡ j)
same_drain j None d e = absurd cc
same_drain j (Some x) d e = dite (ℕ_discrete x.seat j)
    (λ is. let f : Some x ≡ Some d = rw (eq-eqb x.seat j is) at e in (f, let g : x ≡ d = cc in subst (λ (z : Consumer). z.seat ≡ j) g is))
    (λ ne. absurd (let f : None ≡ Some d = rw (ne_eqb x.seat j ne) at e in cc))

pub some_same : {A : Type 0} {a b : A} → Some a ≡ Some b → a ≡ b
some_same e = cc
