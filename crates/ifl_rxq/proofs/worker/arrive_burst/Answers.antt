use Rattle.std.proofs.Common.{◌≡◌, ◌+◌, ◌≤◌, suc, ◌∙◌, sym, refl, subst, arith, take, ℕ}
use Rattle.std.proofs.lemmas.Option.{get_or_from_slice_get}
use Rattle.ifl_desc.specs.Frames.{frames_of}
use Rattle.ifl_rxq.specs.Receive.{Ran}
use Rattle.ifl_device.specs.Receive.{rx_returned}
use Rattle.ifl_rxq.proofs.Bound.{InBurst, burst_begins, burst_more}
use Rattle.ifl_rxq.proofs.worker.arrive_burst.Goals as goal

pub loop-index-init : goal.loop-index-init
loop-index-init g c = (burst_begins c.args.burst c.args.next c.args.input.now.frames c.args.engine.now c.args.missed.now.items c.requires.burst.1 c.requires.room.1 c.requires.lawful, refl)

pub loop-index-preserved : goal.loop-index-preserved
loop-index-preserved g c = let i = c.loop-index.index in let r = c.loop-index.invariant.0 in (
  subst (λ (z : ℕ). InBurst c.args.burst c.args.next c.args.input.now.frames c.args.engine.now c.args.missed.now.items z c.arrive_one.new.engine c.arrive_one.new.missed.items) (let g : suc c.loop-index.index ≡ c.loop-index.index + 1 = omega arith in g)
      (burst_more c.args.burst c.args.next c.requires.burst.1 c.args.input.now.frames c.args.engine.now c.args.missed.now.items c.loop-index.index c.loop-index.engine c.loop-index.missed.items c.arrive_one.new.engine c.arrive_one.new.missed.items c.frame.result
      r (omega arith) (omega arith) (sym (get_or_from_slice_get c.args.input.now.frames c.loop-index.index c.frame.result c.frame.result c.frame.ensures)) c.arrive_one.ensures.lawful c.arrive_one.ensures.did),
  c.arrive_one.ensures.capacity ∙ c.loop-index.invariant.1,
)

pub returns-clause-did : goal.returns-clause-did
returns-clause-did g c = λ full h enough.
    let d = c.loop-index.invariant.0.did full h enough in
    let low : c.args.next ≤ c.args.end = (let r = c.requires.range.0 in omega arith) in
    let at : c.loop-index.index ≡ c.args.end = (let t = c.loop-index-test.false in let u = c.loop-index.auto.index-end low in omega arith) in
    (d.0, subst (λ (z : ℕ). Ran c.args.burst full 0 0 (take z c.args.input.now.frames) c.loop-index.missed.items (frames_of (rx_returned c.loop-index.engine)) d.0) at d.1)
