use Rattle.std.proofs.Common.{◌≡◌, ◌<◌, ◌⊎◌, sym, subst, refl, arith, true, List, [], ◌∷◌, length, map}
use Rattle.ifl_desc.specs.Port.{all_set}
use Rattle.ifl_desc.specs.declared.desc.Desc.{Desc}
use Rattle.ifl_desc.specs.declared.desc.Status.{Status}
use Rattle.ifl_desc.specs.Ends.{DeviceSees}
use Rattle.ifl_desc.specs.Frames.{IsWholeFrame}
use Rattle.ifl_device.specs.Adapter.{returned_as}
use Rattle.ifl_device.specs.Engine.{EngineSees, IsEngine, Returns, engine_of, returned}
use Rattle.ifl_device.specs.Turns.{LooksNot, IsTold, MayReturn, IsVoid}
use Rattle.ifl_device.proofs.Engines.{return_engine, return_sends, return_looks, return_told, return_more, outcomes_are}
use Rattle.ifl_device.proofs.Following.{void_outcome, void_settled, void_bytes, void_count, void_none, void_follows, void_still}
use Rattle.ifl_device.proofs.engine.TxEngine.void.Goals as goal

pub give_back-requires-clause-frame : goal.give_back-requires-clause-frame
give_back-requires-clause-frame g c _ _ = let e : EngineSees = engine_of (g.R.DescRing.ring c.self.inside.ring.now) c.self.inside.port.now c.self.inside.plan (g.R.DescRing.device_sees c.self.inside.device) (all_set c.self.inside.writer) c.self.inside.wire c.self.inside.frame.items c.self.inside.emitted c.self.inside.cleared c.self.inside.downs in let k : IsEngine e = c.self.invariant.0 in
    subst (λ (z : EngineSees). IsWholeFrame z.held) (sym c.self.view_is) c.requires.frame

pub give_back-requires-clause-status : goal.give_back-requires-clause-status
give_back-requires-clause-status g c _ _ = void_settled c.args.status c.requires.status

pub invariant_of-self : goal.invariant_of-self
invariant_of-self g c = let e : EngineSees = engine_of (g.R.DescRing.ring c.self.inside.ring.now) c.self.inside.port.now c.self.inside.plan (g.R.DescRing.device_sees c.self.inside.device) (all_set c.self.inside.writer) c.self.inside.wire c.self.inside.frame.items c.self.inside.emitted c.self.inside.cleared c.self.inside.downs in let k : IsEngine e = c.self.invariant.0 in
    let d : DeviceSees = g.R.DescRing.device_sees c.give_back.new.device in let s : Status = c.args.status in let is : IsVoid s = c.requires.status in let r = c.give_back.ensures in
    let whole : IsWholeFrame e.held = subst (λ (z : EngineSees). IsWholeFrame z.held) (sym c.self.view_is) c.requires.frame in
    let may : (e.plan.by_hand ≡ true) ⊎ MayReturn s e = subst (λ (z : EngineSees). (z.plan.by_hand ≡ true) ⊎ MayReturn s z) (sym c.self.view_is) c.requires.may in
    let none = r.none.0 in let b : EngineSees = engine_of e.ring e.port e.plan d e.writer e.wire [] e.emitted e.cleared e.downs in (
      subst (λ (z : List Desc). IsEngine (engine_of e.ring e.port e.plan d e.writer e.wire z e.emitted e.cleared e.downs)) (sym none)
          (return_engine e k s (void_outcome s is) whole d r.returned r.same r.lawful e.wire (void_bytes e.wire.bytes s is _) refl k.room e.emitted (void_count e.emitted s is) k.hangs (void_none e s may) (void_follows e k whole s may)),
      (let cap = r.none.1 in let v = c.self.invariant.1 in omega arith),
      c.self.invariant.2,
      c.self.invariant.3,
    )

pub returns-clause-sent : goal.returns-clause-sent
returns-clause-sent g c = let e : EngineSees = engine_of (g.R.DescRing.ring c.self.inside.ring.now) c.self.inside.port.now c.self.inside.plan (g.R.DescRing.device_sees c.self.inside.device) (all_set c.self.inside.writer) c.self.inside.wire c.self.inside.frame.items c.self.inside.emitted c.self.inside.cleared c.self.inside.downs in let k : IsEngine e = c.self.invariant.0 in
    let d : DeviceSees = g.R.DescRing.device_sees c.give_back.new.device in let s : Status = c.args.status in let is : IsVoid s = c.requires.status in let r = c.give_back.ensures in
    let whole : IsWholeFrame e.held = subst (λ (z : EngineSees). IsWholeFrame z.held) (sym c.self.view_is) c.requires.frame in
    let may : (e.plan.by_hand ≡ true) ⊎ MayReturn s e = subst (λ (z : EngineSees). (z.plan.by_hand ≡ true) ⊎ MayReturn s z) (sym c.self.view_is) c.requires.may in
    let none = r.none.0 in let b : EngineSees = engine_of e.ring e.port e.plan d e.writer e.wire [] e.emitted e.cleared e.downs in (
    subst (λ (z : EngineSees). Returns s (map (returned_as s) z.held ∷ []) z (engine_of e.ring e.port e.plan d e.writer e.wire c.give_back.new.frame.items e.emitted e.cleared e.downs)) c.self.view_is
    (subst (λ (z : List Desc). Returns s (map (returned_as s) e.held ∷ []) e (engine_of e.ring e.port e.plan d e.writer e.wire z e.emitted e.cleared e.downs)) (sym none)
    (return_sends e k s (void_outcome s is) whole d r.returned r.same r.lawful e.wire (void_bytes e.wire.bytes s is _) refl k.room e.emitted (void_count e.emitted s is))))

pub returns-clause-looked : goal.returns-clause-looked
returns-clause-looked g c = let e : EngineSees = engine_of (g.R.DescRing.ring c.self.inside.ring.now) c.self.inside.port.now c.self.inside.plan (g.R.DescRing.device_sees c.self.inside.device) (all_set c.self.inside.writer) c.self.inside.wire c.self.inside.frame.items c.self.inside.emitted c.self.inside.cleared c.self.inside.downs in let k : IsEngine e = c.self.invariant.0 in
    let d : DeviceSees = g.R.DescRing.device_sees c.give_back.new.device in let s : Status = c.args.status in let is : IsVoid s = c.requires.status in let r = c.give_back.ensures in
    let whole : IsWholeFrame e.held = subst (λ (z : EngineSees). IsWholeFrame z.held) (sym c.self.view_is) c.requires.frame in
    let may : (e.plan.by_hand ≡ true) ⊎ MayReturn s e = subst (λ (z : EngineSees). (z.plan.by_hand ≡ true) ⊎ MayReturn s z) (sym c.self.view_is) c.requires.may in
    let none = r.none.0 in let b : EngineSees = engine_of e.ring e.port e.plan d e.writer e.wire [] e.emitted e.cleared e.downs in (
      subst (λ (z : EngineSees). LooksNot z b) c.self.view_is (return_looks e k s (void_outcome s is) whole d r.returned r.same r.lawful e.wire (void_bytes e.wire.bytes s is _) refl k.room e.emitted (void_count e.emitted s is)),
      return_told e k s (void_outcome s is) whole d r.returned r.same r.lawful e.wire (void_bytes e.wire.bytes s is _) refl k.room e.emitted (void_count e.emitted s is) (subst IsTold (sym c.self.view_is) c.requires.told),
    )

pub returns-clause-may : goal.returns-clause-may
returns-clause-may g c = let e : EngineSees = engine_of (g.R.DescRing.ring c.self.inside.ring.now) c.self.inside.port.now c.self.inside.plan (g.R.DescRing.device_sees c.self.inside.device) (all_set c.self.inside.writer) c.self.inside.wire c.self.inside.frame.items c.self.inside.emitted c.self.inside.cleared c.self.inside.downs in let k : IsEngine e = c.self.invariant.0 in
    let d : DeviceSees = g.R.DescRing.device_sees c.give_back.new.device in let s : Status = c.args.status in let is : IsVoid s = c.requires.status in let r = c.give_back.ensures in
    let whole : IsWholeFrame e.held = subst (λ (z : EngineSees). IsWholeFrame z.held) (sym c.self.view_is) c.requires.frame in
    let may : (e.plan.by_hand ≡ true) ⊎ MayReturn s e = subst (λ (z : EngineSees). (z.plan.by_hand ≡ true) ⊎ MayReturn s z) (sym c.self.view_is) c.requires.may in
    let none = r.none.0 in let b : EngineSees = engine_of e.ring e.port e.plan d e.writer e.wire [] e.emitted e.cleared e.downs in (
    subst (λ (z : List Desc). (e.plan.by_hand ≡ true) ⊎ MayReturn s (engine_of e.ring e.port e.plan d e.writer e.wire z e.emitted e.cleared e.downs)) (sym none) (void_still e b s may refl refl refl refl (void_count e.emitted s is)
    (outcomes_are e k s (void_outcome s is) whole d r.returned r.same r.lawful e.wire (void_bytes e.wire.bytes s is _) refl k.room e.emitted (void_count e.emitted s is))
    (return_looks e k s (void_outcome s is) whole d r.returned r.same r.lawful e.wire (void_bytes e.wire.bytes s is _) refl k.room e.emitted (void_count e.emitted s is))
    (return_more e k s (void_outcome s is) whole d r.returned r.same r.lawful e.wire (void_bytes e.wire.bytes s is _) refl k.room e.emitted (void_count e.emitted s is))))

pub returns-clause-more : goal.returns-clause-more
returns-clause-more g c = let e : EngineSees = engine_of (g.R.DescRing.ring c.self.inside.ring.now) c.self.inside.port.now c.self.inside.plan (g.R.DescRing.device_sees c.self.inside.device) (all_set c.self.inside.writer) c.self.inside.wire c.self.inside.frame.items c.self.inside.emitted c.self.inside.cleared c.self.inside.downs in let k : IsEngine e = c.self.invariant.0 in
    let d : DeviceSees = g.R.DescRing.device_sees c.give_back.new.device in let s : Status = c.args.status in let is : IsVoid s = c.requires.status in let r = c.give_back.ensures in
    let whole : IsWholeFrame e.held = subst (λ (z : EngineSees). IsWholeFrame z.held) (sym c.self.view_is) c.requires.frame in
    let may : (e.plan.by_hand ≡ true) ⊎ MayReturn s e = subst (λ (z : EngineSees). (z.plan.by_hand ≡ true) ⊎ MayReturn s z) (sym c.self.view_is) c.requires.may in
    let none = r.none.0 in let b : EngineSees = engine_of e.ring e.port e.plan d e.writer e.wire [] e.emitted e.cleared e.downs in (
    subst (λ (z : EngineSees). length (returned z) < length (returned b)) c.self.view_is
    (return_more e k s (void_outcome s is) whole d r.returned r.same r.lawful e.wire (void_bytes e.wire.bytes s is _) refl k.room e.emitted (void_count e.emitted s is)))

pub returns-clause-lawful : goal.returns-clause-lawful
returns-clause-lawful g c = (invariant_of-self g c).0
