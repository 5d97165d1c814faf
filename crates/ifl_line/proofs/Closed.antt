-- What a run leaves, once its parts are closed.
use Rattle.std.proofs.Common.{◌≡◌, ℕ, ◌+◌, ◌≤◌, false, List, [], ◌++◌, length, map, take, sym, ap, ◌∙◌, subst, arith}
use Rattle.std.specs.Prelude.{All, AllPairs}
use Rattle.std.specs.List.Sorted.{IsPermutation}
use Rattle.ifl_base.specs.declared.ticket.Ticket.{Ticket}
use Rattle.ifl_base.specs.declared.limits.TheConstants.{PART}
use Rattle.ifl_desc.specs.declared.desc.Desc.{Desc}
use Rattle.ifl_desc.specs.declared.history.Side.TheVariants.{Device}
use Rattle.ifl_desc.specs.Calls.{Meets}
use Rattle.ifl_desc.specs.Closed.{ClosedSees, Closes, IsClosed}
use Rattle.ifl_desc.specs.Ends.{DriverSees, DeviceSees, completed}
use Rattle.ifl_desc.specs.Frames.{frames_of}
use Rattle.ifl_desc.specs.Port.{ReaderState, WriterSees, WriterState, IsSetting, state_of}
use Rattle.ifl_base.specs.declared.fate.Fate.{Fate}
use Rattle.ifl_device.specs.declared.plan.EnginePlan.{EnginePlan}
use Rattle.ifl_device.specs.Outcomes.{KeepsPlan}
use mathlib.Core.List.{IsPrefix}
use Rattle.ifl_desc.specs.History.{sent}
use Rattle.ifl_device.specs.Engine.{outcomes, returned}
use Rattle.atomic_table.specs.Seated.{TableId}
use Rattle.ifl_pcap.specs.declared.frame.Frame.{Frame}
use Rattle.ifl_pcap.specs.File.{written}
use Rattle.ifl_pool.specs.declared.history.Counts.{Counts}
use Rattle.ifl_pool.specs.declared.known.Known.{Known as Passed}
use Rattle.ifl_pool.specs.History.{counts_of, counts_sum}
use Rattle.ifl_pool.specs.Passes.{IsPass, Joined}
use Rattle.ifl_pool.specs.Pools.{ClosedState as ClosedPool, IsClosedPool, PassState}
use Rattle.ifl_ringcore.specs.declared.history.Entry.{Entry}
use Rattle.ifl_ringcore.specs.declared.history.Meaning.{Meaning}
use Rattle.ifl_txq.specs.declared.line.Line.{Line}
use Rattle.ifl_txq.specs.declared.line.OrderLine.{OrderLine}
use Rattle.ifl_txq.specs.Done.{AreFramesOf, AreLinesOf, IsDone, frames_with, is_wire, packets_with}
use Rattle.ifl_txq.specs.Log.{AreTold, LogSees, kept}
use Rattle.ifl_txq.specs.Frames.{fate_of, fates_of}
use Rattle.ifl_txq.specs.Queue.{SawFlush, posted_list, reclaimed_list}
use Rattle.ifl_txq.specs.Standing.{AreTickets, IsFaithful, Tells}
use Rattle.ifl_line.specs.declared.away_line.AwayLine.{AwayLine}
use Rattle.ifl_line.specs.declared.rules.Rules.{Rules}
use Rattle.ifl_line.specs.declared.sizes.Sizes.{Sizes}
use Rattle.ifl_line.specs.Causes.{AreOfLength, FollowsPlan}
use Rattle.ifl_line.specs.Good.{ArePacketsOf, IsAdapterOf, IsLawful, IsPoolOf}
use Rattle.ifl_line.specs.Frames.{lines_with, no_clusters_in}
use Rattle.ifl_line.specs.Lines.{AreSmall}
use Rattle.ifl_line.specs.Remains.{IsDoneEngine, IsDoneQueue}
use Rattle.ifl_line.specs.Runs.{AreShort, IsBefore, IsInFileOrder, IsLineOf, all_from, all_lines, published}
use Rattle.ifl_line.specs.Sent.{IsSent, all_needs}
use Rattle.ifl_line.specs.Steps.{packets, refusals, weigh}
use Rattle.ifl_txq.proofs.Closing.{is_done}
use Rattle.ifl_txq.proofs.Standing.{back_there, returned_there}
use Rattle.ifl_line.proofs.Causing.{fates_of-returned, flush_stays, follows_plan, of_length, take_length}
use Rattle.ifl_line.proofs.Concluding.{packets_in-published, weight_in-published}
use Rattle.ifl_line.proofs.Naming.{account}
use Rattle.ifl_line.proofs.Ordering.{lines_named, lines_told, lines_with-all_lines, no_clusters_in-all_lines, own_tickets, tickets_same}
use Rattle.ifl_line.proofs.Returning.{closed_left, closed_returned, faithful, met_done, returned_all}
use Rattle.ifl_line.proofs.Wiring.{rebuilt, rebuilt-frames_with, rebuilt-packets_with}

module _ (size : ℕ) (r : Rules) (files : List (List Frame)) (turned : List (List AwayLine)) (es : List Entry) (counts : Counts) (short : AreShort files) (sends : IsSent size r 0 files turned es counts) where
  -- ---- the order record

  -- the log of a queue that took what the ring published is the order record of the run
  pub lawful : (order : List OrderLine) (away : List AwayLine) → AreSmall order → away ≡ all_lines turned → AreLinesOf (packets es) (map kept order) → IsLawful size r files order away es
  lawful order away small away_is lines = let all = account size r files turned es counts short sends in let same = tickets_same (packets es) order small lines in record {
    each_once = subst (λ (z : List Ticket × List AwayLine). IsPermutation (all_from 0 files) (z.0 ++ map (λ l. l.ticket) z.1)) (λ i. (same i, sym away_is i)) all.each_once;
    in_file_order = subst (AllPairs IsInFileOrder) same all.in_file_order;
    away_in_order = subst (λ (z : List AwayLine). AllPairs IsBefore (map (λ l. l.ticket) z)) (sym away_is) all.away_in_order;
    accepted = lines_named r files (packets es) order small lines all.fit;
    turned_away = subst (All (IsLineOf size r files)) (sym away_is) all.turned_away;
    refused = λ n. (let h = sends.refused n in let a = lines_with-all_lines n turned in subst (λ (z : List AwayLine). lines_with n z ≤ refusals n es) (sym away_is) (let z : lines_with n (all_lines turned) ≤ refusals n es = omega arith in z));
  }

  -- ---- the pool

  -- the queue has given back what lies in the packets, so that nothing is out
  pub pool_whole : (z : Sizes) (p q o : Passed) (c : ClosedPool) (away : List AwayLine) (n : ℕ) → away ≡ all_lines turned → p.counts ≡ counts → q.counts.taken ≡ 0 → q.counts.given ≡ weigh es
      → Joined p q o → IsPass n o → p.part + q.part ≡ PART → n ≡ z.clusters → c.size ≡ n → c.history ≡ o.seen → IsClosedPool c.size c.history (length c.clusters)
      → length c.clusters + o.counts.taken ≡ n + o.counts.given → IsPoolOf z r files away es c
  pool_whole z p q o c away n away_is own none gave (both, _, _) pass whole number size_is history closed count =
      let part : o.part ≡ PART = ap (λ (x : Passed). x.part) both ∙ whole in
      let sums : o.counts ≡ counts_sum p.counts q.counts = ap (λ (x : Passed). x.counts) both in
      let total : counts_of c.history ≡ counts_sum counts q.counts = ap counts_of history ∙ pass.whole part ∙ sums ∙ ap (λ (x : Counts). counts_sum x q.counts) own in
      let taken = ap (λ (x : Counts). x.taken) total in let empty = ap (λ (x : Counts). x.empty) total in
      let took = ap (λ (x : Counts). x.taken) sums in let given = ap (λ (x : Counts). x.given) sums in let t = ap (λ (x : Counts). x.taken) own in let g = ap (λ (x : Counts). x.given) own in
      let out = sends.out in let found = sends.empty in let lines = no_clusters_in-all_lines turned in record {
        size = size_is ∙ number;
        closed = subst (λ (x : ℕ). IsClosedPool x c.history (length c.clusters)) (size_is ∙ number) closed;
        all = omega arith;
        taken = omega arith;
        empty = subst (λ (x : List AwayLine). no_clusters_in x ≤ (counts_of c.history).empty) (sym away_is) (let x : no_clusters_in (all_lines turned) ≤ (counts_of c.history).empty = omega arith in x);
        bound = λ d. (let b = sends.bound d in subst (λ (x : List AwayLine). (counts_of c.history).taken + no_clusters_in x ≤ all_needs r files) (sym away_is) (let x : (counts_of c.history).taken + no_clusters_in (all_lines turned) ≤ all_needs r files = omega arith in x));
      }

  -- ---- the queue and its adapter

  module _ (ring : TableId) (max : ℕ) (plan : EnginePlan) (driver : DriverSees) (reader : ReaderState) (device : DeviceSees) (writer : WriterSees) (pass : PassState) (log : LogSees) (wire : List ℕ) (d' : DriverSees) (v' : DeviceSees)
      (q : IsDoneQueue ring max (map length files) es driver reader pass log) (e : IsDoneEngine ring plan device writer wire) (m : Meets driver device d' v') where
    met : Meets q.queue.driver e.engine.device d' v'
    met = subst (λ (z : DriverSees × DeviceSees). Meets z.0 z.1 d' v') (λ i. (q.driver_is i, e.device_is i)) m

    true_back : IsFaithful q.queue.driver
    true_back = faithful q.queue.driver d' e.engine v' e.lawful met

    own : AreTickets q.queue.log.counts (published es)
    own = subst (λ (z : List ℕ). AreTickets z (published es)) (sym q.counts_are) (own_tickets size r files turned es counts short sends)

    pub done : IsDone q.queue (published es)
    done = is_done q.queue q.lawful q.done true_back (published es) own q.stands

    pub device_done : (completed v' ≡ v'.fetched) × (v'.ready ≡ [])
    device_done = met_done q.queue.driver d' e.engine v' e.lawful met e.none

    lines : AreLinesOf (packets es) log.lines
    lines = subst (λ (z : List Meaning × List Line). AreLinesOf z.0 z.1) (λ i. (packets_in-published es i, (sym q.log_is i).lines)) done.lines

    pub told : AreTold log.lines
    told = lines_told (packets es) log.lines lines

    pub order_lines : (order : List OrderLine) → map kept order ≡ log.lines → AreLinesOf (packets es) (map kept order)
    order_lines order is = subst (AreLinesOf (packets es)) (sym is) lines

    pub gave : (pass.known.counts.taken ≡ 0) × (pass.known.counts.given ≡ weigh es)
    gave = (ap (λ (z : PassState). z.known.counts.taken) q.pass_is ∙ done.took_none, ap (λ (z : PassState). z.known.counts.given) q.pass_is ∙ done.clusters ∙ weight_in-published es)

    pub adapter : (z : Sizes) (order : List OrderLine) (away : List AwayLine) (c : ClosedSees) → ring.slots ≡ z.descriptors → map kept order ≡ log.lines → IsLawful size r files order away es → Closes d' v' c → IsClosed c
        → IsAdapterOf z files order (packets es) c wire
    adapter z order away c slots is right closes closed =
        let all : returned e.engine ≡ sent Device q.queue.driver.seen = returned_all q.queue.driver d' e.engine v' e.lawful met done.all in
        let back : sent Device c.history ≡ sent Device q.queue.driver.seen = closed_returned q.queue.driver d' e.engine v' e.lawful met c closes ∙ all in
        let kept_lines : map kept order ≡ q.queue.log.lines = is ∙ ap (λ (x : LogSees). x.lines) q.log_is in
        let of_ring : d'.ring ≡ ring = ap (λ (x : DriverSees). x.ring) met.driver ∙ q.lawful.of_ring ∙ q.of_ring in
        let wires : packets_with is_wire (packets es) (map kept order) ≡ frames_with is_wire (frames_of (returned e.engine)) =
        (λ i. packets_with is_wire (sym (packets_in-published es) i) (kept_lines i)) ∙ done.wire ∙ ap (λ (x : List Desc). frames_with is_wire (frames_of x)) (sym all) in record {
          size = closes.size ∙ ap (λ (x : TableId). x.slots) of_ring ∙ slots;
          closed = closed;
          left = closed_left q.queue.driver d' e.engine v' e.lawful met c closes closed q.done;
          frames = subst (λ (x : List Meaning × List Line × List Desc). AreFramesOf x.0 x.1 (frames_of x.2)) (λ i. (packets_in-published es i, sym kept_lines i, sym back i)) done.frames;
          capture = e.wire_is ∙ e.lawful.wire ∙ ap written (sym (rebuilt-frames_with (frames_of (returned e.engine)) e.lawful.outcome) ∙ ap (map rebuilt) (sym wires) ∙ rebuilt-packets_with r files order (packets es) right.accepted);
        }

    -- what the log tells of the packets, as the engine returned them
    tells : Tells max (SawFlush reader) (packets es) log.lines (frames_of (posted_list q.queue.driver)) (map fate_of (outcomes e.engine))
    tells = let all : returned e.engine ≡ sent Device q.queue.driver.seen = returned_all q.queue.driver d' e.engine v' e.lawful met done.all in
        let b = back_there q.queue.driver q.lawful.lawful in let o = returned_there q.queue.driver q.lawful.lawful in let same = done.all in let last = q.done in
        let whole : q.queue.driver.back ≡ length (sent Device q.queue.driver.seen) = omega arith in
        let back : reclaimed_list q.queue.driver ≡ returned e.engine = ap (λ (n : ℕ). take n (sent Device q.queue.driver.seen)) whole ∙ take_length (sent Device q.queue.driver.seen) ∙ sym all in
        let fates : fates_of (reclaimed_list q.queue.driver) ≡ map fate_of (outcomes e.engine) = ap fates_of back ∙ fates_of-returned (returned e.engine) e.lawful.outcome in
        subst (λ (z : ℕ × ReaderState × List Meaning × List Line × List Fate). Tells z.0 (SawFlush z.1) z.2 z.3 (frames_of (posted_list q.queue.driver)) z.4)
        (λ i. (q.max_is i, sym q.reader_is i, packets_in-published es i, (sym q.log_is i).lines, fates i)) (q.stands true_back own).tells

    pub lengths : (order : List OrderLine) → map kept order ≡ log.lines → ArePacketsOf r files order (packets es) → AreOfLength max files order
    lengths order is named = of_length max (SawFlush reader) r files (packets es) order (frames_of (posted_list q.queue.driver)) (outcomes e.engine)
        (subst (λ (z : List Line). Tells max (SawFlush reader) (packets es) z (frames_of (posted_list q.queue.driver)) (map fate_of (outcomes e.engine))) (sym is) tells) named

    pub causes : (z : Sizes) (order : List OrderLine) → ring.slots ≡ z.descriptors → map kept order ≡ log.lines → IsPrefix reader.known writer.known → IsSetting writer.known → plan.by_hand ≡ false → FollowsPlan plan z.descriptors order
    causes z order slots is knew lawful_port planned =
        let keeps : KeepsPlan plan z.descriptors (outcomes e.engine) (state_of writer.known) =
        subst (λ (z : EnginePlan × ℕ × WriterState). KeepsPlan z.0 z.1 (outcomes e.engine) (state_of z.2.known)) (λ i. (e.plan_is i, (ap (λ (x : TableId). x.slots) e.of_ring ∙ slots) i, sym e.writer_is i))
        (e.lawful.planned (ap (λ (x : EnginePlan). x.by_hand) e.plan_is ∙ planned)) in
        follows_plan max (SawFlush reader) plan (packets es) order (frames_of (posted_list q.queue.driver)) z.descriptors (outcomes e.engine) (state_of writer.known)
        (subst (λ (z : List Line). Tells max (SawFlush reader) (packets es) z (frames_of (posted_list q.queue.driver)) (map fate_of (outcomes e.engine))) (sym is) tells) keeps
        (flush_stays reader.known writer.known knew lawful_port)
