use Rattle.std.proofs.Common.{◌≡◌, ◌∙◌, ap, sym, arith, subst, refl, List, ◌++◌, length}
use Rattle.ifl_desc.specs.declared.desc.Desc.{Desc}
use Rattle.ifl_desc.specs.declared.history.Side.TheVariants.{Driver, Device}
use Rattle.ifl_desc.specs.declared.history.Event.{Event}
use Rattle.ifl_desc.specs.declared.history.View.{View}
use Rattle.ifl_desc.specs.declared.rack.Rack.{Rack}
use Rattle.ifl_desc.specs.History.{sent, known}
use Rattle.ifl_desc.specs.Rule.{StaysTied}
use Rattle.ifl_desc.specs.Rack.{seen_of, placed, ahead}
use Rattle.ifl_desc.specs.Sides.{driver_of, device_of}
use Rattle.ifl_desc.specs.Closed.{ClosedSees, Leaves}
use Rattle.ifl_desc.proofs.Closing.{remains_ok}
use Rattle.ifl_desc.proofs.AnyTie.{retires_of, unites_of, gathers_of}
use Rattle.ifl_desc.proofs.both.gather.Goals as goal

pub load-requires : goal.load-requires
load-requires g c = let v : Rack = c.args.device in let w = c.requires.ends.1 in
    let slots = ap (λ x. x.slots) (sym c.requires.tables.1) ∙ w.rack.size in
    let t2 = c.take_all-2.ensures in let q = t2.counts in
    let same : c.take_all-2.new.self.seat.me.0.seen ≡ seen_of v = ap (λ (x : View). x.seen) t2.seat.2 in
    let total = w.total in
    let sizes : c.take_all-2.new.self.size ≡ v.size = q.4 in (
      t2.seat.0 ∙ c.requires.tables.1,
      c.requires.table.0,
      retires_of g.T.RingWords.tie c.take_all-2.new.self t2.rack _ _ c.take_all-2.new.self.seat.id
          (subst (λ z. StaysTied (g.T.RingWords.tie z)) (slots ∙ sym sizes) c.requires.stays)
          (let a = ap (λ (x : List Event). length (sent Device x)) same in let b = ap (known Device) same in omega arith)
          (slots ∙ sym sizes) (c.requires.table.1 ∙ slots ∙ sym sizes),
    )

pub join_seat-requires : goal.join_seat-requires
join_seat-requires g c = let t1 = c.take_all.ensures in let t2 = c.take_all-2.ensures in let u = c.unload.ensures in (
  u.seat.0 ∙ t1.seat.0 ∙ c.requires.tables.0,
  c.load.ensures.0 ∙ t2.seat.0 ∙ c.requires.tables.1,
  c.load.ensures.2.5,
  c.requires.table.0,
  unites_of g.T.RingWords.tie _ _ _ _ _ u.rack.role c.load.ensures.2.0,
)

pub load-requires-2 : goal.load-requires-2
load-requires-2 g c = let t1 = c.take_all.ensures in let u = c.unload.ensures in (
  c.join_seat.ensures.0 ∙ u.seat.0 ∙ t1.seat.0 ∙ c.requires.tables.0,
  c.requires.table.0,
  gathers_of g.T.RingWords.tie _ _ _ _ _ c.unload.new.self.seat.me.0 c.load.new.seat.me.0 c.requires.stays c.requires.table.1 refl u.rack.role c.load.ensures.2.0 (ap (λ m. m.0) c.join_seat.ensures.2),
)

pub new-requires : goal.new-requires
new-requires g c = let h : Rack = c.args.driver in let v : Rack = c.args.device in let k = c.requires.ends.0 in let w = c.requires.ends.1 in
    let slots = ap (λ x. x.slots) (sym c.requires.tables.0) ∙ k.rack.size in
    let t1 = c.take_all.ensures in let t2 = c.take_all-2.ensures in let u = c.unload.ensures in
    let first : c.take_all.new.out.items ≡ ahead Driver (seen_of h) h.left = t1.out ∙ ap (λ (x : List Desc). x ++ ahead Driver (seen_of h) h.left) c.requires.room.0 in
    let items : c.unload.new.out.items ≡ (ahead Driver (seen_of h) h.left ++ ahead Device (seen_of v) v.left) ++ placed h = u.out ∙ (λ i. (t2.out ∙ ap (λ (x : List Desc). x ++ ahead Device (seen_of v) v.left) first) i ++ t1.placed i) in
    let ok = remains_ok h v k w c.requires.met h.size c.args.shared.now.table_id.slots 0 c.load.result c.load-2.result refl slots c.unload.new.self.seat.me.0 (u.seat.2 ∙ t1.seat.2) c.take_all-2.new.self.seat.me c.load.new.seat.me t2.seat.2 c.load.ensures.2
    c.join_seat.new.seat.me c.load-2.new.seat.me (ap (λ m. m.0) c.join_seat.ensures.2) c.load-2.ensures.2 c.unload.new.out.items items in
    record { lawful = ok.0; left = ok.1 }

pub returns-clause-list : goal.returns-clause-list
returns-clause-list g c = let h : Rack = c.args.driver in let v : Rack = c.args.device in let k = c.requires.ends.0 in let w = c.requires.ends.1 in
    let slots = ap (λ x. x.slots) (sym c.requires.tables.0) ∙ k.rack.size in
    let t1 = c.take_all.ensures in let t2 = c.take_all-2.ensures in let u = c.unload.ensures in
    let first : c.take_all.new.out.items ≡ ahead Driver (seen_of h) h.left = t1.out ∙ ap (λ (x : List Desc). x ++ ahead Driver (seen_of h) h.left) c.requires.room.0 in
    let items : c.unload.new.out.items ≡ (ahead Driver (seen_of h) h.left ++ ahead Device (seen_of v) v.left) ++ placed h = u.out ∙ (λ i. (t2.out ∙ ap (λ (x : List Desc). x ++ ahead Device (seen_of v) v.left) first) i ++ t1.placed i) in
    subst (λ (x : ClosedSees). Leaves (driver_of h) (device_of v) x) (sym c.new.ensures)
    (remains_ok h v k w c.requires.met h.size c.args.shared.now.table_id.slots 0 c.load.result c.load-2.result refl slots c.unload.new.self.seat.me.0 (u.seat.2 ∙ t1.seat.2) c.take_all-2.new.self.seat.me c.load.new.seat.me t2.seat.2 c.load.ensures.2
    c.join_seat.new.seat.me c.load-2.new.seat.me (ap (λ m. m.0) c.join_seat.ensures.2) c.load-2.ensures.2 c.unload.new.out.items items).2
