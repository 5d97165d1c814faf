use Rattle.std.proofs.Common.{◌+◌, ◌^◌, ◌<◌, ◌≤◌, ◌∙◌, ap, sym, subst, refl, arith, List, [], ◌∷◌, ◌++◌, length, map}
use Rattle.ifl_desc.specs.Port.{all_set}
use Rattle.ifl_desc.specs.declared.desc.Desc.{Desc}
use Rattle.ifl_desc.specs.declared.desc.Status.TheVariants.{Emitted}
use Rattle.ifl_desc.specs.Ends.{DeviceSees}
use Rattle.ifl_pcap.specs.File.{record_of}
use Rattle.ifl_desc.specs.Frames.{IsWholeFrame}
use Rattle.ifl_device.specs.Adapter.{captured, returned_as, record_size}
use Rattle.ifl_device.specs.Wire.{WireSees, left_in}
use Rattle.ifl_device.specs.Engine.{EngineSees, IsEngine, Returns, engine_of}
use Rattle.ifl_device.specs.Turns.{LooksNot, IsTold, MayEmit}
use Rattle.ifl_device.proofs.Engines.{return_engine, return_sends, return_looks, return_told, few_emitted, some_held, emitted_bytes}
use Rattle.ifl_device.proofs.Following.{emit_hangs, emit_follows}
use Rattle.ifl_device.proofs.engine.TxEngine.emit.Goals as goal

pub write-requires-clause-some : goal.write-requires-clause-some
write-requires-clause-some g c = let e : EngineSees = engine_of (g.R.DescRing.ring c.self.inside.ring.now) c.self.inside.port.now c.self.inside.plan (g.R.DescRing.device_sees c.self.inside.device) (all_set c.self.inside.writer) c.self.inside.wire c.self.inside.frame.items c.self.inside.emitted c.self.inside.cleared c.self.inside.downs in let k : IsEngine e = c.self.invariant.0 in
    subst (λ (z : List Desc). (0 < length z) × (length z ≤ 32768)) (sym c.deref.ensures.value) (some_held e.held (subst (λ (z : EngineSees). IsWholeFrame z.held) (sym c.self.view_is) c.requires.frame), (let s = k.short in omega arith))

pub write-requires-clause-room : goal.write-requires-clause-room
write-requires-clause-room g c = let e : EngineSees = engine_of (g.R.DescRing.ring c.self.inside.ring.now) c.self.inside.port.now c.self.inside.plan (g.R.DescRing.device_sees c.self.inside.device) (all_set c.self.inside.writer) c.self.inside.wire c.self.inside.frame.items c.self.inside.emitted c.self.inside.cleared c.self.inside.downs in let k : IsEngine e = c.self.invariant.0 in
    subst (λ (z : List Desc). record_size z ≤ left_in e.wire) (sym c.deref.ensures.value) (subst (λ (z : EngineSees). record_size z.held ≤ left_in z.wire) (sym c.self.view_is) c.requires.room)

pub give_back-requires-clause-frame : goal.give_back-requires-clause-frame
give_back-requires-clause-frame g c _ _ = let e : EngineSees = engine_of (g.R.DescRing.ring c.self.inside.ring.now) c.self.inside.port.now c.self.inside.plan (g.R.DescRing.device_sees c.self.inside.device) (all_set c.self.inside.writer) c.self.inside.wire c.self.inside.frame.items c.self.inside.emitted c.self.inside.cleared c.self.inside.downs in let k : IsEngine e = c.self.invariant.0 in
    subst (λ (z : EngineSees). IsWholeFrame z.held) (sym c.self.view_is) c.requires.frame

pub overflow_add-self : goal.overflow_add-self
overflow_add-self g c = let e : EngineSees = engine_of (g.R.DescRing.ring c.self.inside.ring.now) c.self.inside.port.now c.self.inside.plan (g.R.DescRing.device_sees c.self.inside.device) (all_set c.self.inside.writer) c.self.inside.wire c.self.inside.frame.items c.self.inside.emitted c.self.inside.cleared c.self.inside.downs in let k : IsEngine e = c.self.invariant.0 in
    let few = few_emitted e k (subst (λ (z : EngineSees). z.wire.room < 2 ^ 64) (sym c.self.view_is) c.requires.small) in let n : e.emitted < 9223372036854775808 = few in omega arith

pub invariant_of-self : goal.invariant_of-self
invariant_of-self g c = let e : EngineSees = engine_of (g.R.DescRing.ring c.self.inside.ring.now) c.self.inside.port.now c.self.inside.plan (g.R.DescRing.device_sees c.self.inside.device) (all_set c.self.inside.writer) c.self.inside.wire c.self.inside.frame.items c.self.inside.emitted c.self.inside.cleared c.self.inside.downs in let k : IsEngine e = c.self.invariant.0 in
    let d : DeviceSees = g.R.DescRing.device_sees c.give_back.new.device in let wire : WireSees = c.write.new.self in
    let whole : IsWholeFrame e.held = subst (λ (z : EngineSees). IsWholeFrame z.held) (sym c.self.view_is) c.requires.frame in
    let may : MayEmit e = subst MayEmit (sym c.self.view_is) c.requires.may in
    let none = c.give_back.ensures.none.0 in
    let bytes = c.write.ensures.bytes ∙ ap (λ (z : List Desc). e.wire.bytes ++ record_of (captured z)) c.deref.ensures.value ∙ emitted_bytes e.wire.bytes e.held in (
      subst (λ (z : List Desc). IsEngine (engine_of e.ring e.port e.plan d e.writer wire z (e.emitted + 1) e.cleared e.downs)) (sym none)
          (return_engine e k Emitted tt whole d c.give_back.ensures.returned c.give_back.ensures.same c.give_back.ensures.lawful wire bytes c.write.ensures.room c.write.ensures.fits (e.emitted + 1) refl (emit_hangs e may) (λ _ _. refl) (emit_follows e k may)),
      (let cap = c.give_back.ensures.none.1 in let v = c.self.invariant.1 in omega arith),
      c.self.invariant.2,
      c.self.invariant.3,
    )

pub returns-clause-sent : goal.returns-clause-sent
returns-clause-sent g c = let e : EngineSees = engine_of (g.R.DescRing.ring c.self.inside.ring.now) c.self.inside.port.now c.self.inside.plan (g.R.DescRing.device_sees c.self.inside.device) (all_set c.self.inside.writer) c.self.inside.wire c.self.inside.frame.items c.self.inside.emitted c.self.inside.cleared c.self.inside.downs in let k : IsEngine e = c.self.invariant.0 in
    let d : DeviceSees = g.R.DescRing.device_sees c.give_back.new.device in let wire : WireSees = c.write.new.self in
    let whole : IsWholeFrame e.held = subst (λ (z : EngineSees). IsWholeFrame z.held) (sym c.self.view_is) c.requires.frame in
    let none = c.give_back.ensures.none.0 in
    let bytes = c.write.ensures.bytes ∙ ap (λ (z : List Desc). e.wire.bytes ++ record_of (captured z)) c.deref.ensures.value ∙ emitted_bytes e.wire.bytes e.held in
    subst (λ (z : EngineSees). Returns Emitted (map (returned_as Emitted) z.held ∷ []) z (engine_of e.ring e.port e.plan d e.writer wire c.give_back.new.frame.items (e.emitted + 1) e.cleared e.downs)) c.self.view_is
    (subst (λ (z : List Desc). Returns Emitted (map (returned_as Emitted) e.held ∷ []) e (engine_of e.ring e.port e.plan d e.writer wire z (e.emitted + 1) e.cleared e.downs)) (sym none)
    (return_sends e k Emitted tt whole d c.give_back.ensures.returned c.give_back.ensures.same c.give_back.ensures.lawful wire bytes c.write.ensures.room c.write.ensures.fits (e.emitted + 1) refl))

pub returns-clause-looked : goal.returns-clause-looked
returns-clause-looked g c = let e : EngineSees = engine_of (g.R.DescRing.ring c.self.inside.ring.now) c.self.inside.port.now c.self.inside.plan (g.R.DescRing.device_sees c.self.inside.device) (all_set c.self.inside.writer) c.self.inside.wire c.self.inside.frame.items c.self.inside.emitted c.self.inside.cleared c.self.inside.downs in let k : IsEngine e = c.self.invariant.0 in
    let d : DeviceSees = g.R.DescRing.device_sees c.give_back.new.device in let wire : WireSees = c.write.new.self in
    let whole : IsWholeFrame e.held = subst (λ (z : EngineSees). IsWholeFrame z.held) (sym c.self.view_is) c.requires.frame in
    let bytes = c.write.ensures.bytes ∙ ap (λ (z : List Desc). e.wire.bytes ++ record_of (captured z)) c.deref.ensures.value ∙ emitted_bytes e.wire.bytes e.held in
    let b : EngineSees = engine_of e.ring e.port e.plan d e.writer wire [] (e.emitted + 1) e.cleared e.downs in (
      subst (λ (z : EngineSees). LooksNot z b) c.self.view_is (return_looks e k Emitted tt whole d c.give_back.ensures.returned c.give_back.ensures.same c.give_back.ensures.lawful wire bytes c.write.ensures.room c.write.ensures.fits (e.emitted + 1) refl),
      return_told e k Emitted tt whole d c.give_back.ensures.returned c.give_back.ensures.same c.give_back.ensures.lawful wire bytes c.write.ensures.room c.write.ensures.fits (e.emitted + 1) refl (subst IsTold (sym c.self.view_is) c.requires.told),
    )

pub returns-clause-lawful : goal.returns-clause-lawful
returns-clause-lawful g c = (invariant_of-self g c).0
