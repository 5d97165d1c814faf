use Rattle.std.proofs.Common.{◌∙◌, ◌++◌, ◌∷◌, [], List, arith, subst, sym}
use Rattle.ifl_base.specs.declared.fate.Away.TheVariants as away
use Rattle.ifl_line.specs.declared.away_line.AwayLine.{AwayLine}
use Rattle.ifl_txq.specs.declared.item.Item.TheVariants as item
use Rattle.ifl_line.specs.Frames.{line_of}
use Rattle.ifl_txq.specs.Items.{meaning_of}
use Rattle.ifl_line.specs.Sent.{Handled}
use Rattle.ifl_line.proofs.Fitting.{sent_accepted, sent_no_buffers, sent_no_clusters}
use Rattle.ifl_line.proofs.sending.send_fit.Goals as goal

pub returns-in-None-clause-handled : goal.returns-in-None-clause-handled
returns-in-None-clause-handled g c = sent_no_clusters _ _ _ _ _ c.bytes-bytes.result.now _ _ _ _ _ _ c.requires.fit c.bytes-bytes.ensures c.in-None.ensures.only c.in-None.ensures.obtained c.turn_away.ensures.line

pub returns-in-None-publish_chain-clause-handled : goal.returns-in-None-publish_chain-clause-handled
returns-in-None-publish_chain-clause-handled g c =
    subst (λ (z : List AwayLine). Handled c.args.line.now.ring.size c.args.line.now.rules c.args.sender.now.number c.args.index (c.args.frame.now ∷ []) c.args.hands.now.seats.ring.known c.args.hands.now.pass.known c.args.sender.now.away.items c.publish_chain.new.hands.seats.ring.known c.publish_chain.new.hands.pass.known z) (sym c.in-None-publish_chain.ensures.lines)
    (sent_accepted c.args.line.now.ring.size c.args.line.now.rules c.args.sender.now.number c.args.index c.args.frame.now c.bytes-bytes.result.now c.in-Some.chain c.new-packet.result.chain c.new-packet.result.ticket c.new-packet.result.stamp
    _ _ _ _ _ _ _ (omega arith) (omega arith) c.requires.fit c.bytes-bytes.ensures c.in-Some.ensures.only c.in-Some.ensures.obtained c.new-packet.ensures.ticket (c.new-packet.ensures.stamp ∙ c.stamp-stamp.ensures) c.new-packet.ensures.chain
    c.in-None-publish_chain.ensures.offered c.in-None-publish_chain.ensures.clusters)

pub returns-in-Some-publish_chain-clause-handled : goal.returns-in-Some-publish_chain-clause-handled
returns-in-Some-publish_chain-clause-handled g c = let o = c.in-Some-publish_chain.ensures in
    sent_no_buffers c.args.line.now.ring.size c.args.line.now.rules c.args.sender.now.number c.args.index c.args.frame.now c.bytes-bytes.result.now c.in-Some.chain c.new-packet.result.chain (meaning_of (item.Packet c.new-packet.result)) c.in-Some-publish_chain.seen
    _ _ _ _ _ _ _ _ c.requires.fit c.bytes-bytes.ensures c.in-Some.ensures.only c.in-Some.ensures.obtained c.new-packet.ensures.chain
    o.offered o.clusters (c.turn_away-in-Some-publish_chain.ensures.line ∙ (λ i. o.lines i ++ line_of (o.same.0 i) c.args.index (away.NoBuffers c.in-Some-publish_chain.seen) ∷ []))
