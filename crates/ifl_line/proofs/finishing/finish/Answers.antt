use Rattle.std.proofs.Common.{refl, subst, ◌∙◌}
use Rattle.ifl_pool.specs.Passes.{IsPass}
use Rattle.ifl_pool.specs.Pools.{PoolId}
use Rattle.ifl_line.specs.Good.{IsLawful}
use Rattle.ifl_line.specs.Lines.{AreSmall}
use Rattle.ifl_line.specs.Works.{files_in, turned_in}
use Rattle.ifl_line.proofs.Closed.{adapter, causes, device_done, gave, lawful, lengths, order_lines, pool_whole, told}
use Rattle.ifl_line.proofs.finishing.finish.Goals as goal

pub close-desc-requires-clause-done : goal.close-desc-requires-clause-done
close-desc-requires-clause-done g c = device_done _ _ (files_in c.args.ended.now) (turned_in c.args.ended.now) _ _ c.requires.few c.requires.sent _ _ _ _ _ _ _ _ _ _ _ _ c.requires.queue c.requires.engine c.meet.ensures.list

pub into_lines-order-requires : goal.into_lines-order-requires
into_lines-order-requires g c = told _ _ (files_in c.args.ended.now) (turned_in c.args.ended.now) _ _ c.requires.few c.requires.sent _ _ _ _ _ _ _ _ _ _ _ _ c.requires.queue c.requires.engine c.meet.ensures.list

pub returns-clause-lawful : goal.returns-clause-lawful
returns-clause-lawful g c = lawful _ _ (files_in c.args.ended.now) (turned_in c.args.ended.now) _ _ c.requires.few c.requires.sent c.into_lines-order.result.items c.all_away-away.result.items
    (subst AreSmall c.deref.ensures.value c.see_tickets.ensures) c.all_away-away.ensures
    (order_lines _ _ (files_in c.args.ended.now) (turned_in c.args.ended.now) _ _ c.requires.few c.requires.sent _ _ _ _ _ _ _ _ _ _ _ _ c.requires.queue c.requires.engine c.meet.ensures.list c.into_lines-order.result.items c.into_lines-order.ensures)

pub returns-clause-adapter : goal.returns-clause-adapter
returns-clause-adapter g c = let right : IsLawful c.args.sizes.ring c.args.rules (files_in c.args.ended.now) c.into_lines-order.result.items c.all_away-away.result.items c.args.remains.ring.history =
    lawful _ _ (files_in c.args.ended.now) (turned_in c.args.ended.now) _ _ c.requires.few c.requires.sent c.into_lines-order.result.items c.all_away-away.result.items
    (subst AreSmall c.deref.ensures.value c.see_tickets.ensures) c.all_away-away.ensures
    (order_lines _ _ (files_in c.args.ended.now) (turned_in c.args.ended.now) _ _ c.requires.few c.requires.sent _ _ _ _ _ _ _ _ _ _ _ _ c.requires.queue c.requires.engine c.meet.ensures.list c.into_lines-order.result.items c.into_lines-order.ensures) in
    adapter _ _ (files_in c.args.ended.now) (turned_in c.args.ended.now) _ _ c.requires.few c.requires.sent _ _ _ _ _ _ _ _ _ _ _ _ c.requires.queue c.requires.engine c.meet.ensures.list
    c.args.sizes c.into_lines-order.result.items c.all_away-away.result.items _ c.requires.slots c.into_lines-order.ensures right c.close-desc.ensures.list c.close-desc.ensures.lawful

pub returns-clause-pool : goal.returns-clause-pool
returns-clause-pool g c = let back = gave _ _ (files_in c.args.ended.now) (turned_in c.args.ended.now) _ _ c.requires.few c.requires.sent _ _ _ _ _ _ _ _ _ _ _ _ c.requires.queue c.requires.engine c.meet.ensures.list in
    pool_whole _ _ (files_in c.args.ended.now) (turned_in c.args.ended.now) _ _ c.requires.few c.requires.sent c.args.sizes c.args.remains.pass.known c.args.remains.queue_pass.known c.join.new.pass.known c.close-pool.result c.all_away-away.result.items _
    c.all_away-away.ensures refl back.0 back.1 c.join.ensures.both (subst (λ (z : PoolId). IsPass z.size c.join.new.pass.known) (c.join.ensures.own ∙ c.requires.passes.senders_of) c.join.ensures.lawful)
    c.requires.passes.whole c.requires.pool c.close-pool.ensures.size c.close-pool.ensures.history c.close-pool.ensures.lawful c.close-pool.ensures.count

pub returns-clause-lengths : goal.returns-clause-lengths
returns-clause-lengths g c = let right : IsLawful c.args.sizes.ring c.args.rules (files_in c.args.ended.now) c.into_lines-order.result.items c.all_away-away.result.items c.args.remains.ring.history =
    lawful _ _ (files_in c.args.ended.now) (turned_in c.args.ended.now) _ _ c.requires.few c.requires.sent c.into_lines-order.result.items c.all_away-away.result.items
    (subst AreSmall c.deref.ensures.value c.see_tickets.ensures) c.all_away-away.ensures
    (order_lines _ _ (files_in c.args.ended.now) (turned_in c.args.ended.now) _ _ c.requires.few c.requires.sent _ _ _ _ _ _ _ _ _ _ _ _ c.requires.queue c.requires.engine c.meet.ensures.list c.into_lines-order.result.items c.into_lines-order.ensures) in
    lengths _ _ (files_in c.args.ended.now) (turned_in c.args.ended.now) _ _ c.requires.few c.requires.sent _ _ _ _ _ _ _ _ _ _ _ _ c.requires.queue c.requires.engine c.meet.ensures.list
    c.into_lines-order.result.items c.into_lines-order.ensures right.accepted

pub returns-clause-causes : goal.returns-clause-causes
returns-clause-causes g c = λ planned. causes _ _ (files_in c.args.ended.now) (turned_in c.args.ended.now) _ _ c.requires.few c.requires.sent _ _ _ _ _ _ _ _ _ _ _ _ c.requires.queue c.requires.engine c.meet.ensures.list
    c.args.sizes c.into_lines-order.result.items c.requires.slots c.into_lines-order.ensures c.close.ensures.knew c.close.ensures.lawful planned
