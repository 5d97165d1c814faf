use Rattle.std.proofs.Common.{◌≡◌, List, length, map, sym, subst, ap, ◌∙◌, arith}
use Rattle.std.specs.Prelude.{sum}
use Rattle.ifl_pcap.specs.declared.frame.Frame.{Frame}
use Rattle.ifl_line.specs.declared.gathering.Ended.{Ended}
use Rattle.ifl_line.specs.Causes.{AreOfLength}
use Rattle.ifl_line.specs.Good.{IsAdapterOf, IsLawful, IsPoolOf}
use Rattle.ifl_line.specs.Remains.{IsDoneQueue}
use Rattle.ifl_line.specs.Runs.{AreShort, all_lines}
use Rattle.ifl_line.specs.Steps.{packets}
use Rattle.ifl_line.specs.Works.{files_in, files_of, turned_in}
use Rattle.ifl_line.proofs.Listing.{few_short, files_in-captures_of, lines_few}
use Rattle.ifl_line.proofs.run.send_captures.Goals as goal

pub finish-requires-clause-few : goal.finish-requires-clause-few
finish-requires-clause-few g c κs within = let same : files_in c.deref-3.result.now ≡ files_of c.args.captures.items = ap files_in c.deref-3.ensures.value ∙ files_in-captures_of c.in_ok-remains.ended.items ∙ ap files_of c.in_ok-remains.ensures.captures in
    subst AreShort (sym same) (few_short c.args.captures.items c.requires.captures.1)

pub finish-requires-clause-room : goal.finish-requires-clause-room
finish-requires-clause-room g c κs within = let same : files_in c.deref-3.result.now ≡ files_of c.args.captures.items = ap files_in c.deref-3.ensures.value ∙ files_in-captures_of c.in_ok-remains.ended.items ∙ ap files_of c.in_ok-remains.ensures.captures in
    let lines = lines_few c.args.sizes.ring c.args.rules 0 (files_in c.in_ok-remains.ended.items) (turned_in c.in_ok-remains.ended.items) c.in_ok-remains.remains.ring.history c.in_ok-remains.ensures.sent.gone in let more = ap (λ (z : List Ended). length (all_lines (turned_in z))) c.deref-3.ensures.value in
    let files = files_in-captures_of c.in_ok-remains.ended.items ∙ ap files_of c.in_ok-remains.ensures.captures in let sums = ap (λ (z : List (List Frame)). sum (map length z)) files in
    let all = c.count.ensures in let seen = ap (λ z. sum (map length (files_of z))) c.deref.ensures.value in let room = c.in_ok-room.ensures.capacity in
    (c.in_ok-room.ensures.items, omega arith)

pub finish-requires-clause-queue : goal.finish-requires-clause-queue
finish-requires-clause-queue g c κs within = let same : files_in c.deref-3.result.now ≡ files_of c.args.captures.items = ap files_in c.deref-3.ensures.value ∙ files_in-captures_of c.in_ok-remains.ended.items ∙ ap files_of c.in_ok-remains.ensures.captures in
    subst (λ (z : List (List Frame)). IsDoneQueue (g.R.DescRing.ring c.in_ok-plan.plan.ring) c.args.sizes.max_segs (map length z) c.in_ok-remains.remains.ring.history (g.R.DescRing.driver_sees c.in_ok-remains.remains.driver) c.in_ok-remains.remains.reader c.in_ok-remains.remains.queue_pass c.in_ok-remains.remains.log) (sym same) c.in_ok-remains.ensures.queue

pub returns-clause-lawful : goal.returns-clause-lawful
returns-clause-lawful g c = let same : files_in c.deref-3.result.now ≡ files_of c.args.captures.items = ap files_in c.deref-3.ensures.value ∙ files_in-captures_of c.in_ok-remains.ended.items ∙ ap files_of c.in_ok-remains.ensures.captures in
    subst (λ (z : List (List Frame)). IsLawful c.args.sizes.ring c.args.rules z c.finish.result.order.items c.finish.result.away.items c.finish.result.ring.history) same c.finish.ensures.lawful

pub returns-clause-adapter : goal.returns-clause-adapter
returns-clause-adapter g c = let same : files_in c.deref-3.result.now ≡ files_of c.args.captures.items = ap files_in c.deref-3.ensures.value ∙ files_in-captures_of c.in_ok-remains.ended.items ∙ ap files_of c.in_ok-remains.ensures.captures in
    subst (λ (z : List (List Frame)). IsAdapterOf c.args.sizes z c.finish.result.order.items (packets c.finish.result.ring.history) (g.R.Closed.ClosedList.closed_sees c.finish.result.desc) c.finish.result.wire.items) same c.finish.ensures.adapter

pub returns-clause-pool : goal.returns-clause-pool
returns-clause-pool g c = let same : files_in c.deref-3.result.now ≡ files_of c.args.captures.items = ap files_in c.deref-3.ensures.value ∙ files_in-captures_of c.in_ok-remains.ended.items ∙ ap files_of c.in_ok-remains.ensures.captures in
    subst (λ (z : List (List Frame)). IsPoolOf c.args.sizes c.args.rules z c.finish.result.away.items c.finish.result.ring.history c.finish.result.pool) same c.finish.ensures.pool

pub returns-clause-lengths : goal.returns-clause-lengths
returns-clause-lengths g c = let same : files_in c.deref-3.result.now ≡ files_of c.args.captures.items = ap files_in c.deref-3.ensures.value ∙ files_in-captures_of c.in_ok-remains.ended.items ∙ ap files_of c.in_ok-remains.ensures.captures in
    subst (λ (z : List (List Frame)). AreOfLength c.args.sizes.max_segs z c.finish.result.order.items) same c.finish.ensures.lengths
