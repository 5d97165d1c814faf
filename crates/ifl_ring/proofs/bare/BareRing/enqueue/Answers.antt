use Rattle.std.proofs.Common.{rules, ap, sym, ◌∙◌, ◌∷◌, ◌++◌, [], map, subst, List, ℕ, length, append_assoc, ◌≤◌, ◌≡◌}
use Rattle.ifl_base.specs.Space.{space}
use Rattle.ifl_ringcore.specs.declared.history.Step.TheVariants.{Refuse}
use Rattle.ifl_ring.specs.declared.view.Known.{Known}
use Rattle.ifl_ring.specs.Acts.{out_all}
use Rattle.ifl_ring.specs.Tells.{nothing}
use Rattle.ifl_ringcore.specs.Counters.{nothing_counted, plus}
use Rattle.ifl_ringcore.specs.declared.counters.Counters.{Counters}
use Rattle.ifl_ringcore.specs.declared.history.Entry.{Entry}
use Rattle.ifl_ringcore.specs.declared.history.Meaning.{Meaning}
use Rattle.ifl_ring.specs.Calls.{EndsReserved, IsDelivery}
use Rattle.ifl_ring.specs.Trails.{Trails}
use Rattle.ifl_ring.proofs.Claiming.{publishing-append}
use Rattle.ifl_ring.proofs.Enqueueing.{enqueued-sent, holds-laid, items-laid}
use Rattle.ifl_ring.proofs.Rising.{rises-plus}
use Rattle.ifl_ring.proofs.Trails.{trail-after, trail-more}
use Rattle.ifl_ring.proofs.bare.BareRing.enqueue.Goals as goal

pub deliver-requires-clause-held : goal.deliver-requires-clause-held
deliver-requires-clause-held g c κs within = let p = c.in-Ok.ensures.ok.2 in let n : c.len-n.result ≡ length c.args.items.now.items = search rules in let items = c.args.items.now.items in
    holds-laid c.args.self.now.size c.len-n.result c.in-Ok.place items c.claim.new.seat.me c.put_back.new.seat.me p (sym n) c.put_back.ensures.same.2
    (c.put_back.ensures.back p.start [] p.here (p.lies ∙ ap (λ (z : ℕ). out_all nothing c.args.self.now.size p.start z []) n))

pub returns-in-Ok-clause-went : goal.returns-in-Ok-clause-went
returns-in-Ok-clause-went g c = let o = c.in-Ok.ensures.ok in let p = o.2 in let q = o.3 in let n : c.len-n.result ≡ length c.args.items.now.items = search rules in let items = c.args.items.now.items in let d = c.deliver.ensures.went in
    let out = c.put_back.ensures.back p.start [] p.here (p.lies ∙ ap (λ (z : ℕ). out_all nothing c.args.self.now.size p.start z []) n) in
    let laid_is = items-laid c.args.self.now.size p.start items c.put_back.new.seat.me.1 out in
    let kept = ap (λ z. z.known) c.put_back.ensures.same.2 in (
      q.0 ++ d.0,
      d.1,
      enqueued-sent _ _ _ _ _ c.deliver.result q.0 d.0 (subst (λ (z : ℕ). EndsReserved z q.0) n q.1)
          (subst (λ (z : List Meaning). IsDelivery c.args.budget c.args.abdicate z c.deliver.result d.0) (λ i. map g.D.Item.RingItem.meaning (laid_is i)) d.2),
      trail-after _ c.args.seat.now.me.0.known _ _ q.0 d.0 d.1 q.2 (subst (λ (z : Known). Trails c.args.self.now.size z d.0 d.1 c.deliver.new.seat.me.0.known) kept d.3),
      d.4,
    )

pub returns-in-Err-clause-went : goal.returns-in-Err-clause-went
returns-in-Err-clause-went g c = let r = c.in-Err.ensures.err in let q = r.2 in let f = c.relieve.ensures.trail in let n : c.len-n.result ≡ length c.args.items.now.items = search rules in
    let up : Counters = record nothing_counted { drops = c.len-n.result } in (
      q.0 ++ f.0,
      plus up f.1,
      (
        publishing-append q.0 f.0 ∙ (λ i. q.1 i ++ f.2 i),
        (q.2.0, q.2.1, f.0, ap (λ (z : List Entry). z ++ f.0) q.2.2 ∙ append_assoc q.2.0 (q.2.1 ∷ []) f.0, q.2.3, (q.2.4.0 ∙ ap Refuse n, q.2.4.1), f.3),
        subst (λ (z : ℕ). space c.args.self.now.size c.in-Err.seen ≤ z) n r.1,
        r.3,
      ),
      trail-more _ c.args.seat.now.me.0.known _ _ q.0 f.0 up f.1 q.3 f.4,
      rises-plus up f.1 _ _ _ c.count_refused.ensures f.5,
    )
