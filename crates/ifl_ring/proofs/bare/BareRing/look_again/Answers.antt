use Rattle.std.proofs.Common.{rules}
use Rattle.ifl_ringcore.specs.State.{first_state}
use Rattle.ifl_ringcore.specs.History.{state_after}
use Rattle.ifl_ring.proofs.Steps.{looks}
use Rattle.ifl_ring.proofs.Bridge.{look_sized}
use Rattle.ifl_ring.proofs.bare.BareRing.look_again.Goals as goal

pub load-word-requires : goal.load-word-requires
load-word-requires g c = let h = c.requires.named in (c.requires.table, search rules, looks g.D.Item.RingItem.meaning g.D.Drainer.origin g.D.Drainer.settled g.D.Drainer.full g.D.Drainer.stands_for _ _ _ _ h.1 h.0)

pub read-requires-clause-word : goal.read-requires-clause-word
read-requires-clause-word g c = let t = look_sized c.args.self.now.table.shared.table_id.slots c.args.self.now.size c.load-word.result c.args.seat.now.me c.load-word.new.seat.me c.args.self.now.sized.1 c.load-word.ensures.2 in
    (state_after first_state c.load-word.new.seat.me.0.known.seen, t.0.1)
