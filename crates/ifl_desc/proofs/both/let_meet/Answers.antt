use Rattle.std.proofs.Common.{◌≡◌, ◌∙◌, ap, sym, subst, refl, List}
use mathlib.Core.Option.{none}
use mathlib.Core.List.{IsPrefix}
use Rattle.atomic_table.specs.Table.{step}
use Rattle.ifl_desc.specs.declared.rack.Rack.{Rack}
use Rattle.ifl_desc.specs.declared.history.Event.{Event}
use Rattle.ifl_desc.specs.declared.history.Side.TheVariants.{Driver, Device}
use Rattle.ifl_desc.specs.declared.history.View.{View}
use Rattle.ifl_desc.specs.Rack.{seen_of}
use Rattle.ifl_desc.specs.Plays.{note, hearing, saw}
use Rattle.ifl_desc.proofs.AnyTie.{notes_of, joins_of, sees_of, catches_of}
use Rattle.ifl_desc.proofs.Meeting.{Mine, met, caught_up, met_driver, met_device}
use Rattle.ifl_desc.proofs.both.let_meet.Goals as goal

pub split_seat-heard-requires : goal.split_seat-heard-requires
split_seat-heard-requires g c = (c.requires.tables.1, c.requires.table.0, notes_of g.T.RingWords.tie _ _ Device _ c.requires.ends.1.rack.role)

pub join_seat-requires : goal.join_seat-requires
join_seat-requires g c = let e = ap (λ (m : Mine). m.0) c.split_seat-heard.ensures.4 in
    (c.requires.tables.0, c.split_seat-heard.ensures.3 ∙ c.requires.tables.1, ap (λ (m : Mine). m.1) c.split_seat-heard.ensures.4, c.requires.table.0, joins_of g.T.RingWords.tie _ _ _ _ _ (e ∙ ap note (sym (ap (λ (x : View). x.seen) e))))

pub load-requires : goal.load-requires
load-requires g c = let d0 : Rack = c.args.driver.now in let v0 : Rack = c.args.device.now in
    let m0 : c.join_seat.new.seat.me.0 ≡ hearing d0.seat.me.0 (note (seen_of v0)) = ap (λ (m : Mine). m.0) c.join_seat.ensures.2 ∙ (λ i. hearing d0.seat.me.0 (c.split_seat-heard.ensures.4 i).0) in
    (c.join_seat.ensures.0 ∙ c.requires.tables.0, c.requires.table.0, sees_of g.T.RingWords.tie _ _ _ _ Driver _ (seen_of d0) (seen_of v0) c.requires.stays c.requires.table.1 refl (m0 ∙ ap (λ (x : View). hearing x (note (seen_of v0))) c.requires.ends.0.rack.role))

pub split_seat-told-requires : goal.split_seat-told-requires
split_seat-told-requires g c = (c.load.ensures.0 ∙ c.join_seat.ensures.0 ∙ c.requires.tables.0, c.requires.table.0, notes_of g.T.RingWords.tie _ _ Driver _ c.load.ensures.2.0)

pub join_seat-requires-2 : goal.join_seat-requires-2
join_seat-requires-2 g c = let e = ap (λ (m : Mine). m.0) c.split_seat-told.ensures.4 in
    (c.split_seat-heard.ensures.0 ∙ c.requires.tables.1, c.split_seat-told.ensures.3 ∙ c.load.ensures.0 ∙ c.join_seat.ensures.0 ∙ c.requires.tables.0, ap (λ (m : Mine). m.1) c.split_seat-told.ensures.4, c.requires.table.0, joins_of g.T.RingWords.tie _ _ _ _ _ (e ∙ ap note (sym (ap (λ (x : View). x.seen) e))))

pub load-requires-2 : goal.load-requires-2
load-requires-2 g c = let d0 : Rack = c.args.driver.now in let v0 : Rack = c.args.device.now in let seen : List Event = c.load.new.seat.me.0.seen in
    let m0 : c.join_seat.new.seat.me.0 ≡ hearing d0.seat.me.0 (note (seen_of v0)) = ap (λ (m : Mine). m.0) c.join_seat.ensures.2 ∙ (λ i. hearing d0.seat.me.0 (c.split_seat-heard.ensures.4 i).0) in
    let later : IsPrefix (seen_of v0) seen = subst (λ (z : List Event). IsPrefix z seen) (ap (λ (x : View). x.heard) m0) c.load.ensures.2.2 in
    let n0 : c.join_seat-2.new.seat.me.0 ≡ hearing v0.seat.me.0 (note seen) = ap (λ (m : Mine). m.0) c.join_seat-2.ensures.2 ∙ (λ i. hearing (c.split_seat-heard.ensures.2 i).0 (c.split_seat-told.ensures.4 i).0) in
    (c.join_seat-2.ensures.0 ∙ c.split_seat-heard.ensures.0 ∙ c.requires.tables.1, c.requires.table.0, catches_of g.T.RingWords.tie _ _ _ _ Device _ (seen_of v0) seen c.requires.stays later c.requires.table.1 refl (n0 ∙ ap (λ (x : View). hearing x (note seen)) c.requires.ends.1.rack.role))

pub returns : goal.returns
returns g c = let d0 : Rack = c.args.driver.now in let v0 : Rack = c.args.device.now in let seen : List Event = c.load.new.seat.me.0.seen in let dk = c.requires.ends.0 in let vk = c.requires.ends.1 in
    let slots = ap (λ x. x.slots) (sym c.requires.tables.0) ∙ dk.rack.size in let slots_v = ap (λ x. x.slots) (sym c.requires.tables.1) ∙ vk.rack.size in
    let m0 : c.join_seat.new.seat.me.0 ≡ hearing d0.seat.me.0 (note (seen_of v0)) = ap (λ (m : Mine). m.0) c.join_seat.ensures.2 ∙ (λ i. hearing d0.seat.me.0 (c.split_seat-heard.ensures.4 i).0) in
    let m1 : c.join_seat.new.seat.me.1 ≡ d0.seat.me.1 = ap (λ (m : Mine). m.1) c.join_seat.ensures.2 in
    let d1 : Rack = record { seat = c.split_seat-told.new.seat; size = d0.size; first = d0.first; put = d0.put; bare = d0.bare; left = d0.left } in
    let saw_all = subst (λ (z : Mine). saw Driver (step c.args.shared.now.table_id.slots 0 0 0 none) c.join_seat.new.seat.me c.load.result z) (sym c.split_seat-told.ensures.2) c.load.ensures.2 in
    let d_table = c.split_seat-told.ensures.0 ∙ c.load.ensures.0 ∙ c.join_seat.ensures.0 in
    let md = met Driver d0 d1 dk.rack c.join_seat.new.seat.me (seen_of v0) _ c.load.result slots m0 m1 saw_all d_table refl refl refl refl refl in
    let later : IsPrefix (seen_of v0) seen = subst (λ (z : List Event). IsPrefix z seen) (ap (λ (x : View). x.heard) m0) c.load.ensures.2.2 in
    let n0 : c.join_seat-2.new.seat.me.0 ≡ hearing v0.seat.me.0 (note seen) = ap (λ (m : Mine). m.0) c.join_seat-2.ensures.2 ∙ (λ i. hearing (c.split_seat-heard.ensures.2 i).0 (c.split_seat-told.ensures.4 i).0) in
    let n1 : c.join_seat-2.new.seat.me.1 ≡ v0.seat.me.1 = ap (λ (m : Mine). m.1) c.join_seat-2.ensures.2 ∙ ap (λ (m : Mine). m.1) c.split_seat-heard.ensures.2 in
    let v1 : Rack = record { seat = c.load-2.new.seat; size = v0.size; first = v0.first; put = v0.put; bare = v0.bare; left = v0.left } in
    let v_table = c.load-2.ensures.0 ∙ c.join_seat-2.ensures.0 ∙ c.split_seat-heard.ensures.0 in
    let caught = caught_up Device v0 v1 vk.rack c.join_seat-2.new.seat.me seen _ c.load-2.result slots_v n0 n1 later c.load-2.ensures.2 v_table refl refl refl refl refl in
    let mv = caught.0 in
    let one : seen_of v1 ≡ seen_of d1 = caught.1 ∙ sym (ap (λ (m : Mine). m.0.seen) c.split_seat-told.ensures.2) in record {
      ends = (met_driver d0 d1 (seen_of v0) dk md refl refl refl refl, met_device v0 v1 seen vk mv refl refl refl refl);
      sizes = (refl, refl);
      list = record {
        driver = λ i. record { ring = d_table i; seen = seen_of d1; pending = md.list i; back = md.same i };
        device = λ i. record { ring = v_table i; seen = seen_of v1; fetched = mv.same i; ready = mv.list i };
        of_driver = md.goes_on;
        of_device = mv.goes_on;
        driver_hears = md.heard;
        device_hears = subst (IsPrefix (seen_of d0)) (sym one) md.goes_on;
        driver_own = md.mine;
        device_own = mv.mine;
        one_history = one;
      };
    }
