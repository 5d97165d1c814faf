use Rattle.std.proofs.Common.{rules, arith, ◌∙◌}
use Rattle.ifl_ringcore.specs.State.{first_state}
use Rattle.ifl_ringcore.specs.History.{state_after}
use Rattle.ifl_ring.proofs.Bridge.{look_sized}
use Rattle.ifl_ring.proofs.Rests.{looked_word, rests_after_look}
use Rattle.ifl_ring.proofs.Steps.{looks}
use Rattle.ifl_ring.proofs.bare.BareRing.look.Goals as goal

pub load-word-requires : goal.load-word-requires
load-word-requires g c = (c.requires.table, search rules, looks g.D.Item.RingItem.meaning g.D.Drainer.origin g.D.Drainer.settled g.D.Drainer.full g.D.Drainer.stands_for _ _ _ _ c.requires.rest.1 c.requires.rest.0.named)

pub read-requires-clause-word : goal.read-requires-clause-word
read-requires-clause-word g c = let t = look_sized c.args.self.now.table.shared.table_id.slots c.args.self.now.size c.load-word.result c.args.seat.now.me c.load-word.new.seat.me c.args.self.now.sized.1 c.load-word.ensures.2 in (state_after first_state c.load-word.new.seat.me.0.known.seen, t.0.1)

pub returns-clause-rest : goal.returns-clause-rest
returns-clause-rest g c = let t = look_sized c.args.self.now.table.shared.table_id.slots c.args.self.now.size c.load-word.result c.args.seat.now.me c.load-word.new.seat.me c.args.self.now.sized.1 c.load-word.ensures.2 in (rests_after_look _ _ _ _ c.requires.rest.0 t.0, t.2.0, t.1 ∙ c.requires.rest.2)

pub returns-clause-look : goal.returns-clause-look
returns-clause-look g c = let r = c.args.self.now.range in let t = look_sized c.args.self.now.table.shared.table_id.slots c.args.self.now.size c.load-word.result c.args.seat.now.me c.load-word.new.seat.me c.args.self.now.sized.1 c.load-word.ensures.2 in
    looked_word c.args.self.now.size _ _ c.load-word.result c.read.result (omega arith) r.1 c.read.ensures.within c.read.ensures.packs t.0
