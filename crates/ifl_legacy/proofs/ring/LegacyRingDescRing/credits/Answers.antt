use Rattle.std.proofs.Common.{ℕ, ◌≡◌, ◌+◌, ◌∙◌, ap, subst, arith}
use Rattle.ifl_desc.specs.Ends.{DriverSees}
use Rattle.ifl_desc.specs.Calls.{Learns}
use Rattle.ifl_desc.proofs.DriverCalls.{learns_on, learns_few}
use Rattle.ifl_legacy.proofs.ring.LegacyRingDescRing.credits.Goals as goal

pub loop-more-init : goal.loop-more-init
loop-more-init c = let e = c.count_frame-more.ensures in record {
  ring = ap (λ (d : DriverSees). d.ring) e.list.learns.same ∙ c.requires;
  learns = subst (λ (z : ℕ). Learns c.args.end.now z c.count_frame-more.new.end) (let g : c.count_frame-more.result ≡ 0 + c.count_frame-more.result = omega arith in g) e.list.learns;
  looked = let a = e.list.looked in omega arith;
  few = let a = e.list.looked in omega arith;
  none = e.list.none;
  lawful = e.lawful.1;
  began = e.lawful.0;
  size = e.size;
}

pub loop-more-preserved : goal.loop-more-preserved
loop-more-preserved c = let i = c.loop-more.invariant in let e = c.count_frame-more-in-loop-more.ensures in record {
  ring = ap (λ (d : DriverSees). d.ring) e.list.learns.same ∙ i.ring;
  learns = learns_on c.args.end.now c.loop-more.end c.count_frame-more-in-loop-more.new.end (c.loop-more.all + c.loop-more.more) c.count_frame-more-in-loop-more.result i.learns e.list.learns;
  looked = let a = i.looked in let b = e.list.looked in omega arith;
  few = let a = i.few in let b = e.list.looked in omega arith;
  none = e.list.none;
  lawful = e.lawful.1;
  began = i.began;
  size = i.size;
}

pub overflow_add-all : goal.overflow_add-all
overflow_add-all c = let i = c.loop-more.invariant in let few = learns_few c.args.end.now c.loop-more.end (c.loop-more.all + c.loop-more.more) i.learns i.began i.lawful in
    let r = ap (λ (d : DriverSees). d.ring.slots) i.learns.same in let s = ap (λ x. x.slots) i.ring in let m = i.size in omega arith

pub loop-more-smaller : goal.loop-more-smaller
loop-more-smaller c = let i = c.loop-more.invariant in let few = learns_few c.args.end.now c.loop-more.end (c.loop-more.all + c.loop-more.more) i.learns i.began i.lawful in
    let r = ap (λ (d : DriverSees). d.ring.slots) i.learns.same in let s = ap (λ x. x.slots) i.ring in omega arith

pub returns-clause-list : goal.returns-clause-list
returns-clause-list c = let i = c.loop-more.invariant in let l = i.learns in record {
  goes_on = l.goes_on;
  same = l.same;
  own_steps = l.own_steps;
  rings_not = l.rings_not;
  looked = i.looked;
  few = i.few;
  more = let m = l.more in omega arith;
  all = i.none (omega arith);
}
