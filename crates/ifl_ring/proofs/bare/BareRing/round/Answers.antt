use Rattle.std.proofs.Common.{arith, ap, ◌∙◌, sym, subst, length, ◌+◌, ◌%◌, ◌≡◌, ◌<◌, ℕ, mod-lt}
use Rattle.std.proofs.Math.Nat.{mod-add-mod}
use Rattle.ifl_ringcore.specs.State.{Consumer}
use Rattle.ifl_ring.specs.declared.view.Known.{Known}
use Rattle.ifl_ring.specs.Tally.{drain_rise}
use Rattle.ifl_ring.specs.Trails.{IsLived, Trails}
use Rattle.ifl_ring.specs.Calls.{IsTotal}
use Rattle.ifl_ring.proofs.Settling.{over_is, ends_at}
use Rattle.ifl_ring.proofs.bare.BareRing.round.Goals as goal

pub begin-outlet-requires-clause-drives : goal.begin-outlet-requires-clause-drives
begin-outlet-requires-clause-drives g c κs within = c.requires.drives.0

pub consume-round-requires-clause-at : goal.consume-round-requires-clause-at
consume-round-requires-clause-at g c κs within = (c.requires.at.0, c.requires.drives.0.some, c.requires.at.2)

pub consume-round-requires-clause-consuming : goal.consume-round-requires-clause-consuming
consume-round-requires-clause-consuming g c κs within = let d = c.requires.drives in let b = rw (← c.deref_mut.ensures.value) at (c.begin-outlet.ensures.consuming d.0) in
    (b.0, subst (λ (z : Consumer). IsTotal c.args.before z.total) (sym b.1) d.1, ap (λ (z : Consumer). z.budget) b.1 ∙ d.2, b.2)

pub advance-first-requires-clause-n : goal.advance-first-requires-clause-n
advance-first-requires-clause-n g c = let d = c.requires.drives in let v = d.0 in let b = rw (← c.deref_mut.ensures.value) at (c.begin-outlet.ensures.consuming v) in
    let x = c.consume-round.ensures.round b.0 (subst (λ (z : Consumer). IsTotal c.args.before z.total) (sym b.1) d.1) (ap (λ (z : Consumer). z.budget) b.1 ∙ d.2) in
    let drain_is : x.0.consumer ≡ v.consumer = x.1 ∙ b.1 in let all = x.0.all in let sum = v.all in let small = c.requires.at.1 in let range = c.args.self.now.range in
    let done_is : x.0.consumer.done ≡ v.consumer.done = ap (λ (z : Consumer). z.done) drain_is in let known_is : x.0.consumer.known ≡ v.consumer.known = ap (λ (z : Consumer). z.known) drain_is in
    (let f : c.consume-round.result.count < c.args.self.now.size = omega arith in f)

pub park-requires-clause-consuming : goal.park-requires-clause-consuming
park-requires-clause-consuming g c κs within = let d = c.requires.drives in let v = d.0 in let b = rw (← c.deref_mut.ensures.value) at (c.begin-outlet.ensures.consuming v) in
    let x = c.consume-round.ensures.round b.0 (subst (λ (z : Consumer). IsTotal c.args.before z.total) (sym b.1) d.1) (ap (λ (z : Consumer). z.budget) b.1 ∙ d.2) in
    let drain_is : x.0.consumer ≡ v.consumer = x.1 ∙ b.1 in let all = x.0.all in let sum = v.all in let small = c.requires.at.1 in let range = c.args.self.now.range in
    let done_is : x.0.consumer.done ≡ v.consumer.done = ap (λ (z : Consumer). z.done) drain_is in let known_is : x.0.consumer.known ≡ v.consumer.known = ap (λ (z : Consumer). z.known) drain_is in
    let first : c.advance-first.result ≡ (x.0.consumer.done + c.consume-round.result.count) % c.args.self.now.size = c.advance-first.ensures ∙ ap (λ (z : ℕ). (z + c.consume-round.result.count) % c.args.self.now.size) v.here
    ∙ mod-add-mod v.consumer.done c.args.self.now.size c.consume-round.result.count ∙ ap (λ (z : ℕ). (z + c.consume-round.result.count) % c.args.self.now.size) (sym done_is) in
    (x.0, first)

pub park-requires-clause-range : goal.park-requires-clause-range
park-requires-clause-range g c κs within = let d = c.requires.drives in let v = d.0 in let b = rw (← c.deref_mut.ensures.value) at (c.begin-outlet.ensures.consuming v) in
    let x = c.consume-round.ensures.round b.0 (subst (λ (z : Consumer). IsTotal c.args.before z.total) (sym b.1) d.1) (ap (λ (z : Consumer). z.budget) b.1 ∙ d.2) in
    let drain_is : x.0.consumer ≡ v.consumer = x.1 ∙ b.1 in let all = x.0.all in let sum = v.all in let small = c.requires.at.1 in let range = c.args.self.now.range in
    let done_is : x.0.consumer.done ≡ v.consumer.done = ap (λ (z : Consumer). z.done) drain_is in let known_is : x.0.consumer.known ≡ v.consumer.known = ap (λ (z : Consumer). z.known) drain_is in
    let pos = c.advance-first.ensures in (rw c.advance-first.ensures (mod-lt _ (let f : 0 < c.args.self.now.size = omega arith in f)), omega arith, omega arith)

pub settle-flag-requires-clause-lived : goal.settle-flag-requires-clause-lived
settle-flag-requires-clause-lived g c κs within = let kept = c.park.ensures.same.2 ∙ (c.consume-round.ensures.same.2 ∙ c.begin-outlet.ensures.same.2) in subst (λ (z : Known). IsLived c.args.self.now.size z) (ap (λ z. z.known) (sym kept)) c.requires.lived

pub settle-flag-requires-clause-parked : goal.settle-flag-requires-clause-parked
settle-flag-requires-clause-parked g c κs within = let d = c.requires.drives in let v = d.0 in let b = rw (← c.deref_mut.ensures.value) at (c.begin-outlet.ensures.consuming v) in
    let x = c.consume-round.ensures.round b.0 (subst (λ (z : Consumer). IsTotal c.args.before z.total) (sym b.1) d.1) (ap (λ (z : Consumer). z.budget) b.1 ∙ d.2) in
    let drain_is : x.0.consumer ≡ v.consumer = x.1 ∙ b.1 in let all = x.0.all in let sum = v.all in let small = c.requires.at.1 in let range = c.args.self.now.range in
    let done_is : x.0.consumer.done ≡ v.consumer.done = ap (λ (z : Consumer). z.done) drain_is in let known_is : x.0.consumer.known ≡ v.consumer.known = ap (λ (z : Consumer). z.known) drain_is in
    let first : c.advance-first.result ≡ (x.0.consumer.done + c.consume-round.result.count) % c.args.self.now.size = c.advance-first.ensures ∙ ap (λ (z : ℕ). (z + c.consume-round.result.count) % c.args.self.now.size) v.here
    ∙ mod-add-mod v.consumer.done c.args.self.now.size c.consume-round.result.count ∙ ap (λ (z : ℕ). (z + c.consume-round.result.count) % c.args.self.now.size) (sym done_is) in
    let p = c.park.ensures.parked x.0 first in let p_all = p.0.all in let p_done : p.0.consumer.done ≡ x.0.consumer.done = ap (λ (z : Consumer). z.done) p.1 in let p_known : p.0.consumer.known ≡ x.0.consumer.known = ap (λ (z : Consumer). z.known) p.1 in
    let more_is : c.consume-round.result.left + length c.consume-round.new.batch.items ≡ length p.0.items = omega arith in
    let same : b.0.consumer ≡ p.0.consumer = sym (p.1 ∙ x.1) in (
      p.0,
      ends_at c.consume-round.result.stalled g.D.Drainer.full c.consume-round.result.count _ _ _ _ _ _ (sym p.2) more_is same x.3,
      over_is c.has_reached-over.result c.consume-round.result.total c.args.budget c.consume-round.result.count p.0.consumer (subst (λ (z : Consumer). IsTotal c.consume-round.result.total (z.total + c.consume-round.result.count)) same x.2)
          (ap (λ (z : Consumer). z.budget) (sym same ∙ b.1) ∙ d.2) c.requires.at.2 c.has_reached-over.ensures.yes c.has_reached-over.ensures.no,
    )

pub returns-clause-trail : goal.returns-clause-trail
returns-clause-trail g c = λ v total budget. let b = rw (← c.deref_mut.ensures.value) at (c.begin-outlet.ensures.consuming v) in
    let x = c.consume-round.ensures.round b.0 (subst (λ (z : Consumer). IsTotal c.args.before z.total) (sym b.1) total) (ap (λ (z : Consumer). z.budget) b.1 ∙ budget) in
    let drain_is : x.0.consumer ≡ v.consumer = x.1 ∙ b.1 in
    let done_is : x.0.consumer.done ≡ v.consumer.done = ap (λ (z : Consumer). z.done) drain_is in
    let first : c.advance-first.result ≡ (x.0.consumer.done + c.consume-round.result.count) % c.args.self.now.size = c.advance-first.ensures ∙ ap (λ (z : ℕ). (z + c.consume-round.result.count) % c.args.self.now.size) v.here
    ∙ mod-add-mod v.consumer.done c.args.self.now.size c.consume-round.result.count ∙ ap (λ (z : ℕ). (z + c.consume-round.result.count) % c.args.self.now.size) (sym done_is) in
    let p = c.park.ensures.parked x.0 first in let n : ℕ = c.consume-round.result.count in let same : p.0.consumer ≡ v.consumer = p.1 ∙ drain_is in
    let kept = c.park.ensures.same.2 ∙ (c.consume-round.ensures.same.2 ∙ c.begin-outlet.ensures.same.2) in
    let q = c.settle-flag.ensures.trail p.0 in (
      n,
      q.0,
      q.1,
      subst (λ (z : Known × Consumer). Trails c.args.self.now.size z.0 q.0 (drain_rise z.1.from c.settle-flag.result.0 (z.1.total + n)) c.settle-flag.new.seat.me.0.known) (λ i. ((kept i).known, same i)) q.2,
      subst (λ (z : Consumer). IsTotal c.consume-round.result.total (z.total + n)) b.1 x.2,
      λ busy. let o = c.settle-flag.ensures.on p.0 busy in
          (o.0, o.1, (o.2.0, o.2.1 ∙ ap (λ (z : Consumer). z.total + n) same, o.2.2 ∙ (ap (λ (z : Consumer). z.budget) same ∙ budget), o.2.3 ∙ ap (λ (z : Consumer). z.from) same)),
    )
