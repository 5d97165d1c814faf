use Rattle.std.proofs.Common.{◌≡◌, ◌∙◌, ap, sym, arith, refl}
use mathlib.Core.Option.{some}
use Rattle.std.specs.Prelude.{Some}
use Rattle.std.specs.Option.{unwrap_or}
use Rattle.ifl_desc.specs.Rule.{Slot}
use Rattle.ifl_desc.proofs.Turning.{same_head}
use Rattle.ifl_desc.proofs.Racks.{counted, take_first, take_there, take_done}
use Rattle.ifl_desc.proofs.rack.Rack.take.Goals as goal

pub swap_at-old-requires-clause-count : goal.swap_at-old-requires-clause-count
swap_at-old-requires-clause-count g c = let pos = c.requires.some in (counted g.R.IsSide.side c.args.self.now c.requires.rack, omega arith)

pub swap_at-old-requires-clause-here : goal.swap_at-old-requires-clause-here
swap_at-old-requires-clause-here g c = (Some (take_first g.R.IsSide.side c.args.self.now c.requires.rack c.requires.some).0, take_there g.R.IsSide.side c.args.self.now c.requires.rack c.requires.some)

pub unreachable-requires : goal.unreachable-requires
unreachable-requires g c = let f = take_first g.R.IsSide.side c.args.self.now c.requires.rack c.requires.some in
    c.in_default.not-Some f.0 (same_head _ _ _ _ (sym c.swap_at-old.ensures.value ∙ take_there g.R.IsSide.side c.args.self.now c.requires.rack c.requires.some))

pub returns-clause-rack : goal.returns-clause-rack
returns-clause-rack g c = (take_done g.R.IsSide.side c.args.self.now c.requires.rack c.requires.some _ c.swap_at-old.ensures.seat c.swap_at-old.ensures.slots refl refl refl refl refl).0

pub returns-clause-value : goal.returns-clause-value
returns-clause-value g c = let f = take_first g.R.IsSide.side c.args.self.now c.requires.rack c.requires.some in
    let e : Some f.0 ≡ Some c.in-Some.d = same_head _ _ _ _ (sym (take_there g.R.IsSide.side c.args.self.now c.requires.rack c.requires.some) ∙ c.in-Some.ensures.value) in
    f.1 ∙ ap some (ap (λ (o : Slot). unwrap_or o f.0) e)
