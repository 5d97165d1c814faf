use Rattle.std.proofs.Common.{◌≡◌, ap, sym, refl, subst, arith, List, length, ℕ}
use Rattle.ifl_desc.specs.declared.desc.Desc.{Desc}
use Rattle.ifl_rxq.specs.FreeLists.{FreeSees, IsFreeList, Settles, free_list_of}
use Rattle.std.proofs.Common.{true, false, Bool, cond, nat_le}
use Rattle.ifl_desc.specs.Frames.{bytes_of, IsWholeFrame}
use Rattle.ifl_rxq.specs.FreeLists.{kept_by}
use Rattle.ifl_device.specs.Receive.{is_filled}
use Rattle.ifl_rxq.specs.Clusters.{Frees}
use Rattle.ifl_rxq.proofs.Lists.{settle_list, settle_does}
use Rattle.ifl_rxq.proofs.free_list.FreeList.keep_frame.Goals as goal

pub keep_clusters-requires : goal.keep_clusters-requires
keep_clusters-requires g c = let a : FreeSees = free_list_of (g.R.DescRing.ring c.self.inside.ring.now) c.self.inside.pool.now c.self.inside.copy_break (g.R.DescRing.driver_sees c.self.inside.driver) c.self.inside.pass.known (length c.self.inside.kept.items) c.self.inside.frame.items c.self.inside.host c.self.inside.delivered c.self.inside.copied in
    let k : IsFreeList a = c.self.invariant.0 in let f = k.few in let r = c.self.invariant.2.clusters in omega arith

pub invariant_of-self : goal.invariant_of-self
invariant_of-self g c = let a : FreeSees = free_list_of (g.R.DescRing.ring c.self.inside.ring.now) c.self.inside.pool.now c.self.inside.copy_break (g.R.DescRing.driver_sees c.self.inside.driver) c.self.inside.pass.known (length c.self.inside.kept.items) c.self.inside.frame.items c.self.inside.host c.self.inside.delivered c.self.inside.copied in
    let k : IsFreeList a = c.self.invariant.0 in let w : IsWholeFrame a.held = subst (λ (z : FreeSees). IsWholeFrame z.held) (sym c.self.view_is) c.requires.frame in
    let u : is_filled a.held ≡ false = subst (λ (z : FreeSees). is_filled z.held ≡ false) (sym c.self.view_is) c.requires.unfilled in
    let left : ℕ = length c.keep_clusters.new.kept.items in
    let frees : Frees (length a.held) true a.pass a.kept a.pass left = record { part = refl; taken = refl; more = (let m = c.keep_clusters.ensures.kept in omega arith); given = omega arith; keeps = c.keep_clusters.ensures.kept } in
    let keeps : cond true (length a.held) 0 ≡ kept_by a.copy_break a.held = sym (ap (λ (z : Bool). cond z (cond (nat_le (length (bytes_of a.held)) a.copy_break) (length a.held) 0) (length a.held)) u) in (
      subst (λ (z : List Desc). IsFreeList (free_list_of a.ring a.pool a.copy_break a.driver a.pass left z a.host a.delivered a.copied)) (sym c.keep_clusters.ensures.none.0)
          (settle_list a k w a.pass left true frees keeps false u a.host refl k.room refl a.delivered a.copied (omega arith) (omega arith)),
      c.self.invariant.1,
      record { clusters = (let o = c.keep_clusters.ensures.capacity in let r = c.self.invariant.2.clusters in omega arith); descriptors = (let o = c.keep_clusters.ensures.none.1 in let r = c.self.invariant.2.descriptors in omega arith); host_small = c.self.invariant.2.host_small },
    )

pub returns-clause-passed : goal.returns-clause-passed
returns-clause-passed g c = let a : FreeSees = free_list_of (g.R.DescRing.ring c.self.inside.ring.now) c.self.inside.pool.now c.self.inside.copy_break (g.R.DescRing.driver_sees c.self.inside.driver) c.self.inside.pass.known (length c.self.inside.kept.items) c.self.inside.frame.items c.self.inside.host c.self.inside.delivered c.self.inside.copied in
    let k : IsFreeList a = c.self.invariant.0 in let w : IsWholeFrame a.held = subst (λ (z : FreeSees). IsWholeFrame z.held) (sym c.self.view_is) c.requires.frame in
    let u : is_filled a.held ≡ false = subst (λ (z : FreeSees). is_filled z.held ≡ false) (sym c.self.view_is) c.requires.unfilled in
    let left : ℕ = length c.keep_clusters.new.kept.items in
    let frees : Frees (length a.held) true a.pass a.kept a.pass left = record { part = refl; taken = refl; more = (let m = c.keep_clusters.ensures.kept in omega arith); given = omega arith; keeps = c.keep_clusters.ensures.kept } in
    let keeps : cond true (length a.held) 0 ≡ kept_by a.copy_break a.held = sym (ap (λ (z : Bool). cond z (cond (nat_le (length (bytes_of a.held)) a.copy_break) (length a.held) 0) (length a.held)) u) in
    subst (λ (z : FreeSees). Settles 0 z (free_list_of a.ring a.pool a.copy_break a.driver a.pass left c.keep_clusters.new.frame.items a.host a.delivered a.copied)) c.self.view_is
    (subst (λ (z : List Desc). Settles 0 a (free_list_of a.ring a.pool a.copy_break a.driver a.pass left z a.host a.delivered a.copied)) (sym c.keep_clusters.ensures.none.0)
    (settle_does a k w a.pass left true frees keeps false u a.host refl k.room refl a.delivered a.copied (omega arith) (omega arith)))

pub returns-clause-lawful : goal.returns-clause-lawful
returns-clause-lawful g c = (invariant_of-self g c).0
