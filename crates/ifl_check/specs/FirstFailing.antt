-- The first clause that fails, of seven.
use Rattle.std.specs.Prelude.{◌≡◌, ℕ, ◌⊎◌, List}
use Rattle.ifl_base.specs.declared.fate.Fate.{Fate}
use Rattle.ifl_base.specs.declared.fate.Away.{Away}
use Rattle.ifl_pcap.specs.declared.frame.Frame.{Frame}
use Rattle.ifl_check.specs.declared.line.Line.{Line}
use Rattle.ifl_check.specs.declared.terms.Terms.{Terms}
use Rattle.ifl_check.specs.Text.{IsOrderText}
use Rattle.ifl_check.specs.EachOnce.{EachOnce}
use Rattle.ifl_check.specs.InOrder.{InOrder}
use Rattle.ifl_check.specs.Lengths.{LengthsAgree}
use Rattle.ifl_check.specs.Allowed.{AreAllowed}
use Rattle.ifl_check.specs.FullRing.{AreFullRings}
use Rattle.ifl_check.specs.OnWire.{IsWire}

-- n is the number of this clause, which fails; or the clause holds, and n is the first of those behind it
abbrev pub FailsFirst : ℕ → ℕ → Type 0 → Type 0 → Type 0
FailsFirst n number Clause Behind = ((n ≡ number) × (Clause → ⊥)) ⊎ (Clause × Behind)

-- the clauses on the lines that were read, from the second on
abbrev pub FailsOfLines : Terms → List (List Frame) → List ℕ → List (Line Fate) → List (Line Away) → ℕ → Type 0
FailsOfLines terms files wire accepted turned n =
    FailsFirst n 2 (EachOnce files accepted turned)
    (FailsFirst n 3 (InOrder accepted turned)
    (FailsFirst n 4 (LengthsAgree terms files accepted turned)
    (FailsFirst n 5 (AreAllowed terms accepted turned)
    (FailsFirst n 6 (AreFullRings terms turned)
    (FailsFirst n 7 (IsWire files accepted wire) ⊥)))))

-- all of them hold
pub record HoldOfLines (terms : Terms) (files : List (List Frame)) (wire : List ℕ) (accepted : List (Line Fate)) (turned : List (Line Away)) : Type 0 where
  pub each_once : EachOnce files accepted turned
  pub in_order : InOrder accepted turned
  pub lengths : LengthsAgree terms files accepted turned
  pub allowed : AreAllowed terms accepted turned
  pub full : AreFullRings terms turned
  pub on_wire : IsWire files accepted wire

-- the text is no order text
abbrev pub IsNoOrderText : List ℕ → Type 0
IsNoOrderText text = (accepted : List (Line Fate)) (turned : List (Line Away)) → IsOrderText text accepted turned → ⊥

-- clause n is the first that fails: the first, where there are no such lines, and else one on the lines
abbrev pub FirstFailing : Terms → List (List Frame) → List ℕ → List ℕ → ℕ → Type 0
FirstFailing terms files wire text n = ((n ≡ 1) × IsNoOrderText text)
    ⊎ ((accepted : List (Line Fate)) × (turned : List (Line Away)) × IsOrderText text accepted turned × FailsOfLines terms files wire accepted turned n)

-- no clause fails
abbrev pub AllHold : Terms → List (List Frame) → List ℕ → List ℕ → Type 0
AllHold terms files wire text =
    (accepted : List (Line Fate)) × (turned : List (Line Away)) × IsOrderText text accepted turned × HoldOfLines terms files wire accepted turned
