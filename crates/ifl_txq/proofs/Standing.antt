-- A queue after each of its steps: which items it stands for.
use Rattle.std.proofs.Common.{◌≡◌, ℕ, suc, ◌%◌, ◌/◌, ◌<◌, ◌≤◌, Bool, true, false, cond, eqb, List, [], ◌∷◌, ◌++◌, length, take, Option, Some, None, slice_index, sym, refl, ap, ◌∙◌, subst, arith, append-nil, append_assoc, length-append}
use mathlib.Core.List.{IsPrefix}
use mathlib.Core.Option.{some}
use lib.ListN.{get_elem?}
use Rattle.std.proofs.lemmas.List.{take-append-le}
use Rattle.std.proofs.lemmas.Bool.Decides.{nat_tests}
use Rattle.ifl_base.specs.declared.ticket.Ticket.{Ticket}
use Rattle.ifl_ringcore.specs.declared.history.Meaning.{Meaning}
use Rattle.ifl_mbuf.specs.declared.packet.Packet.{Packet}
use Rattle.ifl_desc.specs.declared.desc.Desc.{Desc}
use Rattle.ifl_desc.specs.declared.history.Side.TheVariants.{Driver, Device}
use Rattle.ifl_desc.specs.declared.history.Event.{Event}
use Rattle.ifl_desc.specs.History.{sent}
use Rattle.ifl_desc.specs.Frames.{open_after, frames_of, AreAlike, AreReturnsOf}
use Rattle.ifl_desc.specs.Ends.{DriverSees, IsDriver, posted}
use Rattle.ifl_desc.specs.Rule.{InOrder}
use Rattle.ifl_desc.proofs.Steps.{sent_append}
use Rattle.ifl_pool.specs.Pools.{PassState}
use Rattle.ifl_base.specs.declared.fate.Fate.{Fate}
use Rattle.ifl_base.specs.declared.fate.Fate.TheVariants as fate
use Rattle.ifl_txq.specs.declared.line.Line.{Line}
use Rattle.ifl_txq.specs.declared.item.Item.TheVariants as item
use Rattle.ifl_txq.specs.Items.{tag_of, kick_tag, meaning_of}
use Rattle.ifl_txq.specs.Frames.{fates_of, fate_of}
use Rattle.ifl_txq.specs.Log.{FitsIn, LogSees, is_listed, open_line, noted, settled, after_note, after_settle}
use Rattle.ifl_txq.specs.Encap.{IsEncapsulation, needed}
use Rattle.ifl_txq.specs.Queue.{QueueSees, IsQueue, posted_list, reclaimed_list, SawFlush}
use Rattle.ifl_txq.specs.Standing.{packets, IsNew, AreDistinct, AreListed, AreTickets, IsFaithful, Tells, Stands, QueueStandsFor}
use Rattle.ifl_txq.specs.Calls.{Gave}
use Rattle.ifl_txq.specs.Steps.{TakesBack}
use Rattle.ifl_desc.proofs.Framing.{open_append}
use Rattle.ifl_desc.proofs.Splitting.{sent_open, frames_more, alike_at, returns_front}
use Rattle.ifl_desc.proofs.Racks.{take_one}
use Rattle.ifl_txq.proofs.Splitting.{fates_append, frame_at, marks_alike, at_front, at_within}
use Rattle.ifl_txq.proofs.Lines.{listed_by_tag, noted_new, settled_new}
use Rattle.ifl_txq.proofs.Telling.{tells_posted, tells_long, tells_flushed, tells_new, tells_settled, tells_seen, packets_append, weight_append, distinct_last, listed_last}
use Rattle.ifl_txq.proofs.Plans.{plan_names, plan_joined, plan_whole, laid_length}

-- how long what was returned is
pub in_order : (d : DriverSees) → IsDriver d → InOrder d.ring.slots d.seen
in_order d k = k.lawful.order d.seen ([], append-nil d.seen)

pub back_there : (d : DriverSees) → IsDriver d → d.back ≤ length (sent Device d.seen)
back_there d k = let o = (in_order d k).told in let b = k.behind in omega arith

pub returned_there : (d : DriverSees) → IsDriver d → length (sent Device d.seen) ≤ length (sent Driver d.seen)
returned_there d k = let o = in_order d k in let x = o.done in let y = o.heard in omega arith

-- what was faithful later was so before
pub faithful_before : (d e : DriverSees) → IsDriver d → IsPrefix d.seen e.seen → IsFaithful e → IsFaithful d
faithful_before d e k p f =
    let q = sent_append Driver d.seen p.0 in let r = sent_append Device d.seen p.0 in
    let g : AreReturnsOf (sent Driver d.seen ++ sent Driver p.0) (sent Device d.seen ++ sent Device p.0) =
    subst (λ (z : List Desc × List Desc). AreReturnsOf z.0 z.1) (λ i. (q i, r i)) (subst (λ (z : List Event). AreReturnsOf (sent Driver z) (sent Device z)) (sym p.1) f) in
    returns_front (sent Driver d.seen) (sent Driver p.0) (sent Device d.seen) (sent Device p.0) g (returned_there d k)

-- so many were posted
posted_length : (d : DriverSees) → length (posted_list d) ≡ posted d
posted_length d = length-append (sent Driver d.seen) d.pending

-- what it posted ends with a frame
pub posted_open : (q : QueueSees) → IsQueue q → open_after 0 (posted_list q.driver) ≡ 0
posted_open q k = open_append 0 (sent Driver q.driver.seen) q.driver.pending ∙ ap (λ (z : ℕ). open_after z q.driver.pending) (sent_open q.driver.seen k.lawful.lawful.frames) ∙ k.whole

-- a step that posts nothing, reclaims nothing and takes nothing
pub stands_keeps : (a b : QueueSees) → (IsFaithful b.driver → IsFaithful a.driver) → b.log ≡ a.log → b.max_segs ≡ a.max_segs → (SawFlush a.reader → SawFlush b.reader)
    → posted_list b.driver ≡ posted_list a.driver → reclaimed_list b.driver ≡ reclaimed_list a.driver → b.driver.back ≡ a.driver.back → b.pass ≡ a.pass
    → (ms : List Meaning) → QueueStandsFor a ms → QueueStandsFor b ms
stands_keeps a b faithful log max saw posts reclaims back pass ms s f k =
    let was : Stands a ms = s (faithful f) (subst (λ (z : LogSees). AreTickets z.counts ms) log k) in
    let seen = tells_seen a.max_segs (SawFlush a.reader) (SawFlush b.reader) saw (packets ms) a.log.lines (frames_of (posted_list a.driver)) (fates_of (reclaimed_list a.driver)) was.tells in
    let l = ap length posts in let x = posted_length a.driver in let y = posted_length b.driver in
    let c = was.clusters in let g = ap (λ (z : PassState). z.known.counts.given) pass in record {
      tells = subst (λ (z : ℕ × LogSees × List Desc × List Desc). Tells z.0 (SawFlush b.reader) (packets ms) z.1.lines (frames_of z.2) (fates_of z.3)) (λ i. (sym max i, sym log i, sym posts i, sym reclaims i)) seen;
      took_none = ap (λ (z : PassState). z.known.counts.taken) pass ∙ was.took_none;
      clusters = omega arith;
    }

-- one packet more
record OneMore (counts : List ℕ) (ms : List Meaning) (t : Ticket) (m : Meaning) : Type 0 where
  before : AreTickets counts ms
  new : IsNew (tag_of t) (packets ms)
  listed : is_listed counts t ≡ true
  last : packets (ms ++ m ∷ []) ≡ packets ms ++ m ∷ []

no_kick : (t : Ticket) → FitsIn t → eqb (tag_of t) kick_tag ≡ false
no_kick t f = let s : t.sender < 65536 = f.0 in let i : t.index < 4294967296 = f.1 in grind (arith, nat_tests)

one_more : (counts : List ℕ) (ms : List Meaning) (t : Ticket) (m : Meaning) → m.tag ≡ tag_of t → FitsIn t → AreTickets counts (ms ++ m ∷ []) → OneMore counts ms t m
one_more counts ms t m named fits k =
    let alone : packets (m ∷ []) ≡ m ∷ [] = ap (λ (b : Bool). cond b [] (m ∷ [])) (ap (λ (z : ℕ). eqb z kick_tag) named ∙ no_kick t fits) in
    let all : packets (ms ++ m ∷ []) ≡ packets ms ++ m ∷ [] = packets_append ms (m ∷ []) ∙ ap (λ (z : List Meaning). packets ms ++ z) alone in
    let d = distinct_last (packets ms) m (subst AreDistinct all k.0) in
    let l = listed_last counts (packets ms) m (subst (AreListed counts) all k.1) in record {
      before = (d.0, l.0);
      new = subst (λ (z : ℕ). IsNew z (packets ms)) named d.1;
      listed = listed_by_tag counts t fits (subst (λ (z : ℕ). z % 4294967296 < slice_index counts (z / 4294967296)) named l.1.0);
      last = all;
    }

module _ (a : QueueSees) (p : Packet) (pass : PassState) (fits : FitsIn p.ticket) where
  abbrev m : Meaning
  m = meaning_of (item.Packet p)

  -- it was posted
  pub posted_stands : IsQueue a → (SawFlush a.reader → ⊥) → (ds : List Desc) (freed : List ℕ) → needed p ≤ a.max_segs → IsEncapsulation a.max_segs p ds freed → Gave (length freed) a.pass pass
      → (ms : List Meaning) → QueueStandsFor a ms → QueueStandsFor (record a { driver = record (a.driver) { pending = a.driver.pending ++ ds }; pass = pass; log = after_note p.ticket a.log }) (ms ++ m ∷ [])
  posted_stands lawful unseen ds freed need e gave ms s f k =
      let one = one_more a.log.counts ms p.ticket m refl fits k in
      let was : Stands a ms = s f one.before in
      let fresh = tells_new a.max_segs (SawFlush a.reader) (packets ms) a.log.lines (frames_of (posted_list a.driver)) (fates_of (reclaimed_list a.driver)) p.ticket was.tells one.new in
      let lines = noted_new a.log.counts p.ticket a.log.lines one.listed fresh in
      let whole = plan_whole p.ticket p.stamp e.segments ds e.plan e.some in
      let frames : frames_of (sent Driver a.driver.seen ++ (a.driver.pending ++ ds)) ≡ frames_of (posted_list a.driver) ++ ds ∷ [] =
      ap frames_of (sym (append_assoc (sent Driver a.driver.seen) a.driver.pending ds)) ∙ frames_more (posted_list a.driver) ds (posted_open a lawful) whole in
      let more = tells_posted a.max_segs (SawFlush a.reader) unseen (packets ms) a.log.lines (frames_of (posted_list a.driver)) (fates_of (reclaimed_list a.driver)) m (open_line p.ticket) ds was.tells refl (record {
        fits = need;
        names = plan_names p.ticket p.stamp e.segments ds e.plan;
        bytes = plan_joined p.ticket p.stamp e.segments ds e.plan ∙ e.bytes;
        fate_is = refl;
      }) in
      let c = was.clusters in let g = gave.given in let n = laid_length a.max_segs p ds freed e in let w = weight_append ms (m ∷ []) in let l = length-append a.driver.pending ds in record {
        tells = subst (λ (z : List Meaning × List Line × List (List Desc)). Tells a.max_segs (SawFlush a.reader) z.0 z.1 z.2 (fates_of (reclaimed_list a.driver))) (λ i. (sym one.last i, sym lines i, sym frames i)) more;
        took_none = gave.taken ∙ was.took_none;
        clusters = omega arith;
      }

  -- it was written off
  module _ (ms : List Meaning) (s : QueueStandsFor a ms) (f : IsFaithful a.driver) (k : AreTickets a.log.counts (ms ++ m ∷ [])) (y : Fate) (gave : Gave (length p.chain) a.pass pass) where
    abbrev one : OneMore a.log.counts ms p.ticket m
    one = one_more a.log.counts ms p.ticket m refl fits k

    abbrev was : Stands a ms
    was = s f one.before

    abbrev line : Line
    line = record { ticket = p.ticket; fate = Some y }

    abbrev left : QueueSees
    left = record a { pass = pass; log = after_settle p.ticket y (after_note p.ticket a.log) }

    off_lines : settled p.ticket y (noted a.log.counts p.ticket a.log.lines) ≡ a.log.lines ++ line ∷ []
    off_lines =
        let fresh = tells_new a.max_segs (SawFlush a.reader) (packets ms) a.log.lines (frames_of (posted_list a.driver)) (fates_of (reclaimed_list a.driver)) p.ticket was.tells one.new in
        ap (settled p.ticket y) (noted_new a.log.counts p.ticket a.log.lines one.listed fresh) ∙ settled_new p.ticket y a.log.lines fresh

    off_stands : Tells a.max_segs (SawFlush a.reader) (packets ms ++ m ∷ []) (a.log.lines ++ line ∷ []) (frames_of (posted_list a.driver)) (fates_of (reclaimed_list a.driver)) → Stands left (ms ++ m ∷ [])
    off_stands more = let c = was.clusters in let g = gave.given in let w = weight_append ms (m ∷ []) in record {
      tells = subst (λ (z : List Meaning × List Line). Tells a.max_segs (SawFlush a.reader) z.0 z.1 (frames_of (posted_list a.driver)) (fates_of (reclaimed_list a.driver))) (λ i. (sym one.last i, sym off_lines i)) more;
      took_none = gave.taken ∙ was.took_none;
      clusters = omega arith;
    }

  pub long_stands : a.max_segs < needed p → Gave (length p.chain) a.pass pass
      → (ms : List Meaning) → QueueStandsFor a ms → QueueStandsFor (record a { pass = pass; log = after_settle p.ticket fate.TooManySegments (after_note p.ticket a.log) }) (ms ++ m ∷ [])
  long_stands long gave ms s f k =
      off_stands ms s f k fate.TooManySegments gave (tells_long a.max_segs (SawFlush a.reader) (packets ms) a.log.lines (frames_of (posted_list a.driver)) (fates_of (reclaimed_list a.driver)) m
      (record { ticket = p.ticket; fate = Some fate.TooManySegments }) (was ms s f k fate.TooManySegments gave).tells refl (record { long = long; fate_is = refl }))

  pub flushed_stands : SawFlush a.reader → Gave (length p.chain) a.pass pass
      → (ms : List Meaning) → QueueStandsFor a ms → QueueStandsFor (record a { pass = pass; log = after_settle p.ticket fate.Flush (after_note p.ticket a.log) }) (ms ++ m ∷ [])
  flushed_stands saw gave ms s f k =
      off_stands ms s f k fate.Flush gave (tells_flushed a.max_segs (SawFlush a.reader) saw (packets ms) a.log.lines (frames_of (posted_list a.driver)) (fates_of (reclaimed_list a.driver)) m
      (record { ticket = p.ticket; fate = Some fate.Flush }) (was ms s f k fate.Flush gave).tells refl refl)

-- a kick
pub kick_stands : (a : QueueSees) (ms : List Meaning) → QueueStandsFor a ms → QueueStandsFor a (ms ++ meaning_of item.Kick ∷ [])
kick_stands a ms s f k =
    let all : packets (ms ++ meaning_of item.Kick ∷ []) ≡ packets ms = packets_append ms (meaning_of item.Kick ∷ []) ∙ append-nil (packets ms) in
    let was : Stands a ms = s f (subst (λ (z : List Meaning). AreDistinct z × AreListed a.log.counts z) all k) in
    let c = was.clusters in let w = weight_append ms (meaning_of item.Kick ∷ []) in record {
      tells = subst (λ (z : List Meaning). Tells a.max_segs (SawFlush a.reader) z a.log.lines (frames_of (posted_list a.driver)) (fates_of (reclaimed_list a.driver))) (sym all) was.tells;
      took_none = was.took_none;
      clusters = omega arith;
    }

-- an entry was reclaimed
module _ (a : QueueSees) (lawful : IsQueue a) (d : Desc) (at : get_elem? (sent Device a.driver.seen) a.driver.back ≡ some d) (pass : PassState) (gave : Gave 1 a.pass pass) (ms : List Meaning) (s : QueueStandsFor a ms) (f : IsFaithful a.driver) where
  abbrev xs : List Fate
  xs = fates_of (reclaimed_list a.driver)

  reclaimed_more : fates_of (take (suc a.driver.back) (sent Device a.driver.seen)) ≡ xs ++ fates_of (d ∷ [])
  reclaimed_more = ap fates_of (take_one (sent Device a.driver.seen) a.driver.back d at) ∙ fates_append (reclaimed_list a.driver) (d ∷ [])

  abbrev there : (p : Desc) × (get_elem? (sent Driver a.driver.seen) a.driver.back ≡ some p) × AreAlike p d
  there = alike_at (sent Driver a.driver.seen) (sent Device a.driver.seen) a.driver.back d f at

  -- the number of its frame
  same_number : length xs ≡ length (fates_of (take a.driver.back (posted_list a.driver)))
  same_number =
      let o = at_within (sent Driver a.driver.seen) a.driver.back there.0 there.1 in
      marks_alike (sent Driver a.driver.seen) (sent Device a.driver.seen) a.driver.back f (back_there a.driver lawful.lawful)
      ∙ ap (λ (z : List Desc). length (fates_of z)) (sym (take-append-le a.driver.back (sent Driver a.driver.seen) a.driver.pending (omega arith)))

  abbrev next : Bool → QueueSees
  next b = record a { driver = record (a.driver) { back = suc a.driver.back }; pass = pass; log = cond b (after_settle d.ticket (fate_of d.status) a.log) a.log }

  by_mark : (b : Bool) → d.last ≡ b → AreTickets (next b).log.counts ms → Stands (next b) ms
  by_mark false e k =
      let was : Stands a ms = s f k in let c = was.clusters in let g = gave.given in
      let still : fates_of (take (suc a.driver.back) (sent Device a.driver.seen)) ≡ xs = reclaimed_more ∙ ap (λ (b : Bool). xs ++ cond b (fate_of d.status ∷ []) []) e ∙ append-nil xs in record {
        tells = subst (Tells a.max_segs (SawFlush a.reader) (packets ms) a.log.lines (frames_of (posted_list a.driver))) (sym still) was.tells;
        took_none = gave.taken ∙ was.took_none;
        clusters = omega arith;
      }
  by_mark true e k =
      let was : Stands a ms = s f k in let c = was.clusters in let g = gave.given in
      let more : fates_of (take (suc a.driver.back) (sent Device a.driver.seen)) ≡ xs ++ fate_of d.status ∷ [] = reclaimed_more ∙ ap (λ (b : Bool). xs ++ cond b (fate_of d.status ∷ []) []) e in
      let p : Desc = there.0 in let alike = there.2 in
      let w = frame_at [] (posted_list a.driver) a.driver.back p (at_front (sent Driver a.driver.seen) a.driver.pending a.driver.back p there.1) (sym alike.last ∙ e) in
      let here : get_elem? (frames_of (posted_list a.driver)) (length xs) ≡ some w.0 = ap (get_elem? (frames_of (posted_list a.driver))) same_number ∙ w.1 in
      let done = tells_settled a.max_segs (SawFlush a.reader) (packets ms) a.log.lines (frames_of (posted_list a.driver)) xs w.0 p (fate_of d.status) was.tells k.0 here w.2 in record {
        tells = subst (λ (z : List Fate × Ticket). Tells a.max_segs (SawFlush a.reader) (packets ms) (settled z.1 (fate_of d.status) a.log.lines) (frames_of (posted_list a.driver)) z.0) (λ i. (sym more i, sym alike.ticket i)) done;
        took_none = gave.taken ∙ was.took_none;
        clusters = omega arith;
      }

pub taken_back : (a b : QueueSees) → IsQueue a → (r : Option Bool) → TakesBack a r b → (ms : List Meaning) → QueueStandsFor a ms → QueueStandsFor b ms
taken_back a b lawful None t ms s = subst (λ (z : QueueSees). QueueStandsFor z ms) (sym t.0) s
taken_back a b lawful (Some last) t ms s =
    let d : Desc = t.0 in let log : LogSees = cond d.last (after_settle d.ticket (fate_of d.status) a.log) a.log in
    let is : b ≡ record a { driver = record (a.driver) { back = suc a.driver.back }; pass = b.pass; log = log } = t.4 ∙ (λ i. record a { driver = t.2.0 i; pass = b.pass; log = log }) in
    subst (λ (z : QueueSees). QueueStandsFor z ms) (sym is) (λ f k. by_mark a lawful d t.2.2 b.pass t.3 ms s f d.last refl k)
