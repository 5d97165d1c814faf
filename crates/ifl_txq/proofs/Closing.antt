-- What follows of a queue that stands for a list, once all that it posted is reclaimed.
use Rattle.std.proofs.Common.{◌≡◌, ℕ, suc, ◌<◌, inl, inr, Bool, true, false, cond, List, [], ◌∷◌, ◌++◌, length, map, take, drop, Some, sym, refl, ap, ◌∙◌, subst, arith, append-nil, length-append}
use Rattle.ifl_base.specs.declared.ticket.Ticket.{Ticket}
use Rattle.ifl_ringcore.specs.declared.history.Meaning.{Meaning}
use Rattle.ifl_desc.specs.declared.desc.Desc.{Desc}
use Rattle.ifl_desc.specs.declared.history.Side.TheVariants.{Driver, Device}
use Rattle.ifl_desc.specs.History.{sent}
use Rattle.ifl_desc.specs.Ends.{posted}
use Rattle.ifl_base.specs.declared.fate.Fate.{Fate}
use Rattle.ifl_base.specs.declared.fate.Fate.TheVariants as fate
use Rattle.ifl_txq.specs.declared.line.Line.{Line}
use Rattle.ifl_txq.specs.Items.{marks_of}
use Rattle.ifl_desc.specs.Frames.{frames_from, frames_of, AreAlike, AreReturnsOf}
use Rattle.ifl_txq.specs.Frames.{fates_of, fate_of, joined}
use Rattle.ifl_txq.specs.Queue.{QueueSees, IsQueue, posted_list, reclaimed_list, SawFlush}
use Rattle.ifl_txq.specs.Standing.{packets, AreOf, AreTickets, IsFaithful, IsPosted, Tells, Stands, QueueStandsFor}
use Rattle.ifl_txq.specs.Done.{AreLinesOf, marks_shown, shown, frame_fate, IsReturned, IsUnposted, AreFramesOf, is_wire, is_reset, told, packets_with, frames_with, IsDone}
use Rattle.ifl_desc.proofs.Splitting.{no_desc}
use Rattle.ifl_txq.proofs.Standing.{back_there, returned_there}

-- each has an entry
abbrev AreSome : List (List Desc) → Type 0
AreSome [] = Unit {0}
AreSome (f ∷ fs) = (0 < length f) × AreSome fs

some_frames : (p ds : List Desc) → AreSome (frames_from p ds)
some_frames p [] = tt
some_frames p (d ∷ ds) = by_mark d.last (some_frames [] ds) (some_frames (p ++ d ∷ []) ds)
  where
    by_mark : (b : Bool) → AreSome (frames_from [] ds) → AreSome (frames_from (p ++ d ∷ []) ds) → AreSome (cond b ((p ++ d ∷ []) ∷ frames_from [] ds) (frames_from (p ++ d ∷ []) ds))
    by_mark true marked begun = (let l = length-append p (d ∷ []) in omega arith, marked)
    by_mark false marked begun = begun

last_fate : (p : List Desc) (d : Desc) → frame_fate (p ++ d ∷ []) ≡ fate_of d.status
last_fate [] d = refl
last_fate (x ∷ []) d = refl
last_fate (x ∷ (y ∷ p)) d = last_fate (y ∷ p) d

-- the fates of the frames, one by one
fates_are : (p ds : List Desc) → map frame_fate (frames_from p ds) ≡ fates_of ds
fates_are p [] = refl
fates_are p (d ∷ ds) = by_mark d.last (fates_are [] ds) (fates_are (p ++ d ∷ []) ds)
  where
    by_mark : (b : Bool) → map frame_fate (frames_from [] ds) ≡ fates_of ds → map frame_fate (frames_from (p ++ d ∷ []) ds) ≡ fates_of ds
        → map frame_fate (cond b ((p ++ d ∷ []) ∷ frames_from [] ds) (frames_from (p ++ d ∷ []) ds)) ≡ cond b (fate_of d.status ∷ fates_of ds) (fates_of ds)
    by_mark true marked begun = λ i. last_fate p d i ∷ marked i
    by_mark false marked begun = begun

-- the same entries but for their statuses
abbrev AreAllAlike : List Desc → List Desc → Type 0
AreAllAlike [] ds = ds ≡ []
AreAllAlike (p ∷ ps) [] = ⊥
AreAllAlike (p ∷ ps) (d ∷ ds) = AreAlike p d × AreAllAlike ps ds

all_alike : (ps ds : List Desc) → AreReturnsOf ps ds → length ds ≡ length ps → AreAllAlike ps ds
all_alike [] ds r l = no_desc ds l
all_alike (p ∷ ps) [] r l = absurd (omega arith)
all_alike (p ∷ ps) (d ∷ ds) r l = (r.0, all_alike ps ds r.1 (omega arith))

alike_more : (ps ds : List Desc) (p d : Desc) → AreAllAlike ps ds → AreAlike p d → AreAllAlike (ps ++ p ∷ []) (ds ++ d ∷ [])
alike_more [] ds p d a o = subst (λ (z : List Desc). AreAllAlike (p ∷ []) (z ++ d ∷ [])) (sym a) (o, refl)
alike_more (q ∷ ps) [] p d a o = absurd a
alike_more (q ∷ ps) (e ∷ ds) p d a o = (a.0, alike_more ps ds p d a.1 o)

alike_joined : (ps ds : List Desc) → AreAllAlike ps ds → joined ds ≡ joined ps
alike_joined [] ds a = ap joined a
alike_joined (p ∷ ps) [] a = absurd a
alike_joined (p ∷ ps) (d ∷ ds) a = λ i. (a.0.seg i).bytes ++ alike_joined ps ds a.1 i

alike_names : (t : Ticket) (marks : List ℕ) (ps ds : List Desc) → AreAllAlike ps ds → AreOf t marks ps → AreOf t marks ds
alike_names t marks [] ds a n = subst (AreOf t marks) (sym a) tt
alike_names t marks (p ∷ ps) [] a n = absurd a
alike_names t marks (p ∷ ps) (d ∷ ds) a n = (a.0.ticket ∙ n.0, ap marks_of a.0.stamp ∙ n.1, alike_names t marks ps ds a.1 n.2)

-- the same frames but for the statuses
abbrev AreAlikeFrames : List (List Desc) → List (List Desc) → Type 0
AreAlikeFrames [] gs = gs ≡ []
AreAlikeFrames (f ∷ fs) [] = ⊥
AreAlikeFrames (f ∷ fs) (g ∷ gs) = AreAllAlike f g × AreAlikeFrames fs gs

frames_alike : (p q ps ds : List Desc) → AreAllAlike p q → AreAllAlike ps ds → AreAlikeFrames (frames_from p ps) (frames_from q ds)
frames_alike p q [] ds a b = ap (frames_from q) b
frames_alike p q (x ∷ ps) [] a b = absurd b
frames_alike p q (x ∷ ps) (d ∷ ds) a b =
    subst (λ (z : Bool). AreAlikeFrames (cond x.last ((p ++ x ∷ []) ∷ frames_from [] ps) (frames_from (p ++ x ∷ []) ps)) (cond z ((q ++ d ∷ []) ∷ frames_from [] ds) (frames_from (q ++ d ∷ []) ds))) (sym b.0.last)
    (by_mark x.last (frames_alike [] [] ps ds refl b.1) (frames_alike (p ++ x ∷ []) (q ++ d ∷ []) ps ds (alike_more p q x d a b.0) b.1))
  where
    by_mark : (z : Bool) → AreAlikeFrames (frames_from [] ps) (frames_from [] ds) → AreAlikeFrames (frames_from (p ++ x ∷ []) ps) (frames_from (q ++ d ∷ []) ds)
        → AreAlikeFrames (cond z ((p ++ x ∷ []) ∷ frames_from [] ps) (frames_from (p ++ x ∷ []) ps)) (cond z ((q ++ d ∷ []) ∷ frames_from [] ds) (frames_from (q ++ d ∷ []) ds))
    by_mark true marked begun = (alike_more p q x d a b.0, marked)
    by_mark false marked begun = begun

no_frames : (fs gs : List (List Desc)) → AreAlikeFrames fs gs → fs ≡ [] → gs ≡ []
no_frames [] gs a e = a
no_frames (f ∷ fs) gs a e = let l : suc (length fs) ≡ 0 = ap length e in absurd (omega arith)

-- where each posted frame came back, each packet has one fate, and what came back are the packets but for those that were not posted
module _ (max : ℕ) (saw : Type 0) where
  all_told : (ms : List Meaning) (ls : List Line) (fs gs : List (List Desc)) → Tells max saw ms ls fs (map frame_fate gs) → AreAlikeFrames fs gs → AreLinesOf ms ls × AreFramesOf ms ls gs
  all_told [] ls fs gs t a = (t.0, no_frames fs gs a t.1)
  all_told (m ∷ ms) [] fs gs t a = absurd t
  all_told (m ∷ ms) (l ∷ ls) fs gs t a = elim t.1 [
    | inl h ↦ posted gs h.0 h.1 h.3 h.4 (subst (λ (z : List (List Desc)). AreAlikeFrames z gs) h.2 a) (λ (hs : List (List Desc)) (u : Tells max saw ms ls h.1 (map frame_fate hs)) (b : AreAlikeFrames h.1 hs). all_told ms ls h.1 hs u b)
    | inr k ↦ elim k [
      | inl h ↦ unposted fate.TooManySegments (inl h.0.fate_is) h.0.fate_is (all_told ms ls fs gs h.1 a)
      | inr h ↦ unposted fate.Flush (inr h.0.fate_is) h.0.fate_is (all_told ms ls fs gs h.1 a)
    ]
  ]
    where
      unposted : (y : Fate) → IsUnposted l → l.fate ≡ Some y → AreLinesOf ms ls × AreFramesOf ms ls gs → AreLinesOf (m ∷ ms) (l ∷ ls) × AreFramesOf (m ∷ ms) (l ∷ ls) gs
      unposted y u e r = ((t.0, (y, e), r.0), inr (u, r.1))

      posted : (hs : List (List Desc)) (frame : List Desc) (behind : List (List Desc)) → IsPosted max m l frame (map frame_fate hs) → Tells max saw ms ls behind (drop 1 (map frame_fate hs)) → AreAlikeFrames (frame ∷ behind) hs
          → ((js : List (List Desc)) → Tells max saw ms ls behind (map frame_fate js) → AreAlikeFrames behind js → AreLinesOf ms ls × AreFramesOf ms ls js)
          → AreLinesOf (m ∷ ms) (l ∷ ls) × AreFramesOf (m ∷ ms) (l ∷ ls) hs
      posted [] frame behind p u b rec = absurd b
      posted (g ∷ hs) frame behind p u b rec = let r = rec hs u b.1 in (
        (t.0, (frame_fate g, p.fate_is), r.0),
        inl (g, hs, refl, record { names = alike_names l.ticket m.marks frame g b.0 p.names; bytes = alike_joined frame g b.0 ∙ p.bytes; fate_is = p.fate_is }, r.1),
      )

names_shown : (t : Ticket) (marks : List ℕ) (f : List Desc) → AreOf t marks f → 0 < length f → marks_shown f ≡ marks
names_shown t marks [] n some = absurd (omega arith)
names_shown t marks (d ∷ f) n some = n.1

-- the packets with such a fate are the frames with it
module _ (test : Fate → Bool) (not_long : test fate.TooManySegments ≡ false) (not_flush : test fate.Flush ≡ false) where
  picks : (ms : List Meaning) (ls : List Line) (gs : List (List Desc)) → AreFramesOf ms ls gs → AreSome gs → packets_with test ms ls ≡ frames_with test gs
  picks [] ls gs a some = sym (ap (frames_with test) a)
  picks (m ∷ ms) [] gs a some = absurd a
  picks (m ∷ ms) (l ∷ ls) gs a some = elim a [
    | inl h ↦ let here : AreSome (h.0 ∷ h.1) = subst AreSome h.2 some in let rest = picks ms ls h.1 h.4 here.1 in let front = shows h.0 h.3 here.0 in
        (λ i. cond (told test (h.3.fate_is i)) (front i ∷ rest i) (rest i)) ∙ ap (frames_with test) (sym h.2)
    | inr h ↦ passed (untold h.0) ∙ picks ms ls gs h.1 some
  ]
    where
      shows : (f : List Desc) → IsReturned m l f → 0 < length f → (m.marks, m.bytes) ≡ shown f
      shows f r more = λ i. (sym (names_shown l.ticket m.marks f r.names more) i, sym r.bytes i)

      untold : IsUnposted l → told test l.fate ≡ false
      untold (inl e) = ap (told test) e ∙ not_long
      untold (inr e) = ap (told test) e ∙ not_flush

      passed : told test l.fate ≡ false → packets_with test (m ∷ ms) (l ∷ ls) ≡ packets_with test ms ls
      passed e = ap (λ (b : Bool). cond b ((m.marks, m.bytes) ∷ packets_with test ms ls) (packets_with test ms ls)) e

-- the queue is done
module _ (q : QueueSees) (lawful : IsQueue q) (done : posted q.driver ≡ q.driver.back) (f : IsFaithful q.driver) (ms : List Meaning) (k : AreTickets q.log.counts ms) (s : QueueStandsFor q ms) where
  abbrev was : Stands q ms
  was = s f k

  as_many : (length (sent Device q.driver.seen) ≡ length (sent Driver q.driver.seen)) × (length q.driver.pending ≡ 0) × (q.driver.back ≡ length (sent Device q.driver.seen))
  as_many = let b = back_there q.driver lawful.lawful in let r = returned_there q.driver lawful.lawful in ((omega arith), (omega arith), (omega arith))

  list_is : posted_list q.driver ≡ sent Driver q.driver.seen
  list_is = ap (λ (z : List Desc). sent Driver q.driver.seen ++ z) (no_desc q.driver.pending as_many.1) ∙ append-nil (sent Driver q.driver.seen)

  take_all : (l : List Desc) → take (length l) l ≡ l
  take_all [] = refl
  take_all (x ∷ l) = ap (λ (z : List Desc). x ∷ z) (take_all l)

  reclaimed_is : reclaimed_list q.driver ≡ sent Device q.driver.seen
  reclaimed_is = ap (λ (z : ℕ). take z (sent Device q.driver.seen)) as_many.2 ∙ take_all (sent Device q.driver.seen)

  abbrev fs : List (List Desc)
  fs = frames_of (sent Driver q.driver.seen)

  abbrev gs : List (List Desc)
  gs = frames_of (sent Device q.driver.seen)

  fates : map frame_fate gs ≡ fates_of (sent Device q.driver.seen)
  fates = fates_are [] (sent Device q.driver.seen)

  tells : Tells q.max_segs (SawFlush q.reader) (packets ms) q.log.lines fs (map frame_fate gs)
  tells = subst (λ (z : List Desc × List Fate). Tells q.max_segs (SawFlush q.reader) (packets ms) q.log.lines (frames_of z.0) z.1) (λ i. (list_is i, (ap fates_of reclaimed_is ∙ sym fates) i)) was.tells

  all : AreLinesOf (packets ms) q.log.lines × AreFramesOf (packets ms) q.log.lines gs
  all = all_told q.max_segs (SawFlush q.reader) (packets ms) q.log.lines fs gs tells
      (frames_alike [] [] (sent Driver q.driver.seen) (sent Device q.driver.seen) refl (all_alike (sent Driver q.driver.seen) (sent Device q.driver.seen) f as_many.0))

  pub is_done : IsDone q ms
  is_done = record {
    lines = all.0;
    frames = all.1;
    wire = picks is_wire refl refl (packets ms) q.log.lines gs all.1 (some_frames [] (sent Device q.driver.seen));
    reset = picks is_reset refl refl (packets ms) q.log.lines gs all.1 (some_frames [] (sent Device q.driver.seen));
    all = as_many.0;
    took_none = was.took_none;
    clusters = (let c = was.clusters in omega arith);
  }
