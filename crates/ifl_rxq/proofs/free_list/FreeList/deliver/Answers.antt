use Rattle.std.proofs.Common.{◌≡◌, ◌+◌, ◌<◌, ◌≤◌, ◌∙◌, ap, sym, refl, subst, arith, List, ◌++◌, length, ℕ}
use Rattle.ifl_desc.specs.declared.desc.Desc.{Desc}
use Rattle.ifl_rxq.specs.FreeLists.{FreeSees, IsFreeList, Settles, free_list_of}
use Rattle.std.proofs.Common.{true, false, Bool, cond, nat_le, ◌^◌}
use Rattle.ifl_pcap.specs.File.{record_of}
use Rattle.ifl_desc.specs.Frames.{bytes_of, IsWholeFrame}
use Rattle.ifl_device.specs.Adapter.{captured}
use Rattle.ifl_device.specs.Receive.{is_filled}
use Rattle.ifl_rxq.specs.FreeLists.{kept_by}
use Rattle.ifl_rxq.proofs.Lists.{settle_list, settle_does, few_delivered, few_copied}
use Rattle.ifl_rxq.proofs.free_list.FreeList.deliver.Goals as goal

one_few : (b : Bool) (n : ℕ) → n ≡ cond b 1 0 → n ≤ 1
one_few true n e = omega arith
one_few false n e = omega arith

pub overflow_add-self : goal.overflow_add-self
overflow_add-self g c = let a : FreeSees = free_list_of (g.R.DescRing.ring c.self.inside.ring.now) c.self.inside.pool.now c.self.inside.copy_break (g.R.DescRing.driver_sees c.self.inside.driver) c.self.inside.pass.known (length c.self.inside.kept.items) c.self.inside.frame.items c.self.inside.host c.self.inside.delivered c.self.inside.copied in
    let k : IsFreeList a = c.self.invariant.0 in let f = few_delivered a k c.self.invariant.2.host_small in let n : a.delivered < 9223372036854775808 = f in omega arith

pub overflow_add-self-2 : goal.overflow_add-self-2
overflow_add-self-2 g c = let a : FreeSees = free_list_of (g.R.DescRing.ring c.self.inside.ring.now) c.self.inside.pool.now c.self.inside.copy_break (g.R.DescRing.driver_sees c.self.inside.driver) c.self.inside.pass.known (length c.self.inside.kept.items) c.self.inside.frame.items c.self.inside.host c.self.inside.delivered c.self.inside.copied in
    let k : IsFreeList a = c.self.invariant.0 in let f = few_delivered a k c.self.invariant.2.host_small in let n : a.delivered < 9223372036854775808 = f in let m = few_copied a k in let o : c.one_if.result ≤ 1 = one_few (nat_le c.frame_len.result c.from.result) c.one_if.result c.one_if.ensures in omega arith

pub invariant_of-self : goal.invariant_of-self
invariant_of-self g c = let a : FreeSees = free_list_of (g.R.DescRing.ring c.self.inside.ring.now) c.self.inside.pool.now c.self.inside.copy_break (g.R.DescRing.driver_sees c.self.inside.driver) c.self.inside.pass.known (length c.self.inside.kept.items) c.self.inside.frame.items c.self.inside.host c.self.inside.delivered c.self.inside.copied in
    let k : IsFreeList a = c.self.invariant.0 in let w : IsWholeFrame a.held = subst (λ (z : FreeSees). IsWholeFrame z.held) (sym c.self.view_is) c.requires.frame in
    let u : is_filled a.held ≡ true = subst (λ (z : FreeSees). is_filled z.held ≡ true) (sym c.self.view_is) c.requires.filled in
    let left : ℕ = length c.free_clusters.new.kept.items in
    let bytes : c.write.new.self.bytes ≡ a.host.bytes ++ record_of (captured a.held) = c.write.ensures.bytes ∙ ap (λ (z : List Desc). a.host.bytes ++ record_of (captured z)) c.deref.ensures.value in
    let len : c.frame_len.result ≡ length (bytes_of a.held) = c.frame_len.ensures.value ∙ ap (λ (z : List Desc). length (bytes_of z)) c.deref-2.ensures.value in
    let short : a.copied + c.one_if.result ≡ a.copied + cond (nat_le (length (bytes_of a.held)) a.copy_break) 1 0 = ap (λ (z : ℕ). a.copied + z) (c.one_if.ensures ∙ (λ i. cond (nat_le (len i) (c.from.ensures i)) 1 0)) in
    let keeps : cond (nat_le c.frame_len.result c.from.result) (length a.held) 0 ≡ kept_by a.copy_break a.held = (λ i. cond (nat_le (len i) (c.from.ensures i)) (length a.held) 0) ∙ sym (ap (λ (z : Bool). cond z (cond (nat_le (length (bytes_of a.held)) a.copy_break) (length a.held) 0) (length a.held)) u) in (
      subst (λ (z : List Desc). IsFreeList (free_list_of a.ring a.pool a.copy_break a.driver c.free_clusters.new.pass.known left z c.write.new.self (a.delivered + 1) (a.copied + c.one_if.result))) (sym c.free_clusters.ensures.none.0)
          (settle_list a k w c.free_clusters.new.pass.known left (nat_le c.frame_len.result c.from.result) c.free_clusters.ensures.freed keeps true u c.write.new.self c.write.ensures.room c.write.ensures.fits bytes (a.delivered + 1) (a.copied + c.one_if.result) refl short),
      c.free_clusters.ensures.own ∙ c.self.invariant.1,
      record { clusters = (let o = c.free_clusters.ensures.capacity in let r = c.self.invariant.2.clusters in omega arith); descriptors = (let o = c.free_clusters.ensures.none.1 in let r = c.self.invariant.2.descriptors in omega arith); host_small = (let o = c.write.ensures.room in let r = c.self.invariant.2.host_small in subst (λ (z : ℕ). z < 2 ^ 64) (sym o) r) },
    )

pub returns-clause-delivered : goal.returns-clause-delivered
returns-clause-delivered g c = let a : FreeSees = free_list_of (g.R.DescRing.ring c.self.inside.ring.now) c.self.inside.pool.now c.self.inside.copy_break (g.R.DescRing.driver_sees c.self.inside.driver) c.self.inside.pass.known (length c.self.inside.kept.items) c.self.inside.frame.items c.self.inside.host c.self.inside.delivered c.self.inside.copied in
    let k : IsFreeList a = c.self.invariant.0 in let w : IsWholeFrame a.held = subst (λ (z : FreeSees). IsWholeFrame z.held) (sym c.self.view_is) c.requires.frame in
    let u : is_filled a.held ≡ true = subst (λ (z : FreeSees). is_filled z.held ≡ true) (sym c.self.view_is) c.requires.filled in
    let left : ℕ = length c.free_clusters.new.kept.items in
    let bytes : c.write.new.self.bytes ≡ a.host.bytes ++ record_of (captured a.held) = c.write.ensures.bytes ∙ ap (λ (z : List Desc). a.host.bytes ++ record_of (captured z)) c.deref.ensures.value in
    let len : c.frame_len.result ≡ length (bytes_of a.held) = c.frame_len.ensures.value ∙ ap (λ (z : List Desc). length (bytes_of z)) c.deref-2.ensures.value in
    let short : a.copied + c.one_if.result ≡ a.copied + cond (nat_le (length (bytes_of a.held)) a.copy_break) 1 0 = ap (λ (z : ℕ). a.copied + z) (c.one_if.ensures ∙ (λ i. cond (nat_le (len i) (c.from.ensures i)) 1 0)) in
    let keeps : cond (nat_le c.frame_len.result c.from.result) (length a.held) 0 ≡ kept_by a.copy_break a.held = (λ i. cond (nat_le (len i) (c.from.ensures i)) (length a.held) 0) ∙ sym (ap (λ (z : Bool). cond z (cond (nat_le (length (bytes_of a.held)) a.copy_break) (length a.held) 0) (length a.held)) u) in
    subst (λ (z : FreeSees). Settles 1 z (free_list_of a.ring a.pool a.copy_break a.driver c.free_clusters.new.pass.known left c.free_clusters.new.frame.items c.write.new.self (a.delivered + 1) (a.copied + c.one_if.result))) c.self.view_is
    (subst (λ (z : List Desc). Settles 1 a (free_list_of a.ring a.pool a.copy_break a.driver c.free_clusters.new.pass.known left z c.write.new.self (a.delivered + 1) (a.copied + c.one_if.result))) (sym c.free_clusters.ensures.none.0)
    (settle_does a k w c.free_clusters.new.pass.known left (nat_le c.frame_len.result c.from.result) c.free_clusters.ensures.freed keeps true u c.write.new.self c.write.ensures.room c.write.ensures.fits bytes (a.delivered + 1) (a.copied + c.one_if.result) refl short))

pub returns-clause-lawful : goal.returns-clause-lawful
returns-clause-lawful g c = (invariant_of-self g c).0
