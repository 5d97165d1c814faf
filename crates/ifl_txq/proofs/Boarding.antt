-- One item, as it is taken.
use Rattle.std.proofs.Common.{◌≡◌, ℕ, suc, ◌+◌, ◌*◌, ◌<◌, ◌≤◌, List, [], ◌∷◌, ◌++◌, length, Some, sym, refl, ap, ◌∙◌, subst, arith, append-nil, append_assoc, length-append}
use Rattle.std.proofs.lemmas.List.{length-map}
use Rattle.std.proofs.lemmas.List.Sorted.{length_permutation}
use Rattle.ifl_ringcore.specs.declared.history.Meaning.{Meaning}
use Rattle.ifl_mbuf.specs.declared.packet.Packet.{Packet}
use Rattle.ifl_mbuf.specs.Segment.{Segment, numbers_of}
use Rattle.ifl_desc.specs.declared.desc.Desc.{Desc}
use Rattle.ifl_desc.specs.declared.history.Event.{Event}
use Rattle.ifl_desc.specs.declared.history.Side.TheVariants.{Driver}
use Rattle.ifl_desc.specs.History.{sent, bells}
use Rattle.ifl_pool.specs.Pools.{PassState}
use Rattle.ifl_base.specs.declared.fate.Fate.{Fate}
use Rattle.ifl_base.specs.declared.fate.Fate.TheVariants as fate
use Rattle.ifl_txq.specs.declared.item.Item.{Item}
use Rattle.ifl_txq.specs.declared.item.Item.TheVariants as item
use Rattle.ifl_txq.specs.declared.encap.Encap.TheVariants as encap
use Rattle.ifl_txq.specs.declared.sent.Sent.TheVariants as went
use Rattle.ifl_txq.specs.Items.{meaning_of}
use Rattle.ifl_desc.specs.Frames.{frames_of}
use Rattle.ifl_txq.specs.Log.{FitsIn, after_note, after_settle}
use Rattle.ifl_txq.specs.Encap.{Encapped, IsEncapsulation}
use Rattle.ifl_txq.specs.Queue.{QueueSees, IsQueue, Origin, origin_of, posted_list, SawFlush}
use Rattle.ifl_txq.specs.Standing.{QueueStandsFor}
use Rattle.ifl_txq.specs.Calls.{Gave, boarded}
use Rattle.ifl_txq.specs.Steps.{Took, WroteDown, WroteOff, RangOnce, Boarded, SentOne, Paced, SentNext}
use Rattle.ifl_desc.proofs.Splitting.{frames_more}
use Rattle.ifl_txq.proofs.Plans.{plan_whole}
use Rattle.ifl_txq.proofs.Standing.{posted_open, posted_stands, long_stands, flushed_stands, kick_stands}
use Rattle.ifl_txq.proofs.Moves.{took_none, took_both, rang_took, rang_rung, rang_bell, rang_boarded}

-- the queue beside a new pass and a new log
module _ (a : QueueSees) (p : Packet) (pass : PassState) where
  abbrev off : Fate → QueueSees
  off y = record a { pass = pass; log = after_settle p.ticket y (after_note p.ticket a.log) }

  off_took : (y : Fate) → Gave (length p.chain) a.pass pass → ((ms : List Meaning) → QueueStandsFor a ms → QueueStandsFor (off y) (ms ++ meaning_of (item.Packet p) ∷ [])) → Took (meaning_of (item.Packet p) ∷ []) a (off y)
  off_took y gave stands = record {
    origin = λ i. record (origin_of a) { part = gave.part i };
    reader = refl;
    goes_on = ([], append-nil a.driver.seen);
    back = refl;
    knows = refl;
    looked = refl;
    stands = stands;
  }

  abbrev on : List Desc → QueueSees
  on ds = record a { driver = record (a.driver) { pending = a.driver.pending ++ ds }; pass = pass; log = after_note p.ticket a.log }

  on_took : (ds : List Desc) (n : ℕ) → Gave n a.pass pass → ((ms : List Meaning) → QueueStandsFor a ms → QueueStandsFor (on ds) (ms ++ meaning_of (item.Packet p) ∷ [])) → Took (meaning_of (item.Packet p) ∷ []) a (on ds)
  on_took ds n gave stands = record {
    origin = λ i. record (origin_of a) { part = gave.part i };
    reader = refl;
    goes_on = ([], append-nil a.driver.seen);
    back = refl;
    knows = refl;
    looked = refl;
    stands = stands;
  }

  on_boarded : IsQueue a → (ds : List Desc) (freed : List ℕ) → IsEncapsulation a.max_segs p ds freed → boarded (on ds) ≡ suc (boarded a)
  on_boarded k ds freed e =
      ap (λ (z : List Desc). length (frames_of z)) (sym (append_assoc (sent Driver a.driver.seen) a.driver.pending ds))
      ∙ ap length (frames_more (posted_list a.driver) ds (posted_open a k) (plan_whole p.ticket p.stamp e.segments ds e.plan e.some))
      ∙ length-append (frames_of (posted_list a.driver)) (ds ∷ []) ∙ (let g : boarded a + 1 ≡ suc (boarded a) = omega arith in g)

-- a packet was posted
pub boards : (a m b : QueueSees) → IsQueue a → (SawFlush a.reader → ⊥) → (p : Packet) (count : ℕ) (freed : List ℕ) → Encapped a p (encap.Posted count freed) m → WroteDown p.ticket (length freed) m b → Boarded a p went.Posted b
boards a m b k unseen p count freed e w =
    let ds : List Desc = e.2 in let enc : IsEncapsulation a.max_segs p ds freed = e.4 in
    let gave : Gave (length freed) a.pass b.pass = subst (λ (z : PassState). Gave (length freed) z b.pass) (ap (λ (z : QueueSees). z.pass) e.5) w.1 in
    let is : on a p b.pass ds ≡ b = sym (w.2 ∙ (λ i. record (e.5 i) { pass = b.pass; log = after_note p.ticket (e.5 i).log })) in
    let took = on_took a p b.pass ds (length freed) gave (posted_stands a p b.pass w.0 k unseen ds freed e.1 enc gave) in
    subst (λ (z : QueueSees). Took (meaning_of (item.Packet p) ∷ []) a z × (z.driver.seen ≡ a.driver.seen) × (boarded z ≡ suc (boarded a))) is (took, refl, on_boarded a p b.pass k ds freed enc)

-- a packet was written off
writes_off : (a b : QueueSees) (p : Packet) (y : Fate) → ((gave : Gave (length p.chain) a.pass b.pass) → FitsIn p.ticket → (ms : List Meaning) → QueueStandsFor a ms → QueueStandsFor (off a p b.pass y) (ms ++ meaning_of (item.Packet p) ∷ []))
    → WroteOff p.ticket y (length p.chain) a b → Took (meaning_of (item.Packet p) ∷ []) a b × (b.driver ≡ a.driver)
writes_off a b p y stands w =
    subst (λ (z : QueueSees). Took (meaning_of (item.Packet p) ∷ []) a z × (z.driver ≡ a.driver)) (sym w.2) (off_took a p b.pass y w.1 (stands w.1 w.0), refl)

pub drops : (a m b : QueueSees) (p : Packet) (freed : List ℕ) → Encapped a p (encap.Dropped freed) m → WroteOff p.ticket fate.TooManySegments (length freed) m b → Boarded a p went.Gone b
drops a m b p freed e w =
    let n : length freed ≡ length p.chain = sym (length_permutation freed (numbers_of p.chain) e.2) ∙ length-map p.chain (λ (s : Segment). s.number) in
    let off_a : WroteOff p.ticket fate.TooManySegments (length p.chain) a b = subst (λ (z : QueueSees × ℕ). WroteOff p.ticket fate.TooManySegments z.1 z.0 b) (λ i. (e.3 i, n i)) w in
    writes_off a b p fate.TooManySegments (λ gave fits. long_stands a p b.pass fits e.1 gave) off_a

pub flushes : (a b : QueueSees) (p : Packet) (freed : List ℕ) → SawFlush a.reader → freed ≡ numbers_of p.chain → WroteOff p.ticket fate.Flush (length freed) a b → Took (meaning_of (item.Packet p) ∷ []) a b × (b.driver ≡ a.driver)
flushes a b p freed saw is w =
    let n : length freed ≡ length p.chain = ap length is ∙ length-map p.chain (λ (s : Segment). s.number) in
    writes_off a b p fate.Flush (λ gave fits. flushed_stands a p b.pass fits saw gave) (subst (λ (z : ℕ). WroteOff p.ticket fate.Flush z a b) n w)

pub kicks : (a : QueueSees) → Took (meaning_of item.Kick ∷ []) a a
kicks a = record { origin = refl; reader = refl; goes_on = ([], append-nil a.driver.seen); back = refl; knows = refl; looked = refl; stands = kick_stands a }

-- one more waits for its doorbell
pub paced_on : (a : QueueSees) (unrung now : ℕ) → now ≡ unrung + 1 → now < a.doorbell_every → Paced unrung a now a
paced_on a unrung now e few = record { took = took_none a; few = few; rung = λ z. absurd (omega arith); frames = refl; bells_are = ap (λ (z : ℕ). bells a.driver.seen * a.doorbell_every + z) (e ∙ (let g : unrung + 1 ≡ suc unrung = omega arith in g)) }

-- all that wait were rung
pub paced_off : (a b : QueueSees) (unrung : ℕ) → IsQueue a → unrung < a.doorbell_every → a.doorbell_every ≤ unrung + 1 → RangOnce a b → Paced unrung a 0 b
paced_off a b unrung k few many r = let c = rang_bell a b k r in let e = k.some_every in record {
  took = rang_took a b k r;
  few = omega arith;
  rung = λ _. rang_rung a b k r;
  frames = rang_boarded a b k r;
  bells_are = ap (λ (z : ℕ). z * a.doorbell_every + 0) c ∙ one_more (bells a.driver.seen) a.doorbell_every (omega arith);
}
  where
    one_more : (x e : ℕ) → e ≡ suc unrung → suc x * e + 0 ≡ x * e + suc unrung
    one_more x e is = (let g : suc x * e + 0 ≡ x * e + e = omega arith in g) ∙ ap (λ (z : ℕ). x * e + z) is

pub next_posted : (a b c : QueueSees) (batch left : List Item) (i : Item) (unrung now : ℕ) → batch ≡ i ∷ left → SentOne a i went.Posted b → Paced unrung b now c → SentNext a batch unrung (Some now) c left
next_posted a b c batch left i unrung now split s p =
    let e : b.doorbell_every ≡ a.doorbell_every = ap (λ (z : Origin). z.doorbell_every) s.0.origin in
    let x = subst (λ (z : ℕ). bells c.driver.seen * z + now ≡ bells b.driver.seen * z + suc unrung) e p.bells_are in
    let y : bells b.driver.seen * a.doorbell_every ≡ bells a.driver.seen * a.doorbell_every = ap (λ (z : List Event). bells z * a.doorbell_every) s.1 in
    let few = p.few in let f = p.frames in let g = s.2 in (
      (i, split, took_both (meaning_of i ∷ []) [] a b c s.0 p.took),
      subst (λ (z : ℕ). now < z) e few,
      (λ was. p.rung),
      by_sums (bells c.driver.seen * a.doorbell_every) (bells b.driver.seen * a.doorbell_every) (bells a.driver.seen * a.doorbell_every) (boarded a) (boarded c) x y (f ∙ g),
    )
  where
    by_sums : (p q r f h : ℕ) → p + now ≡ q + suc unrung → q ≡ r → h ≡ suc f → p + now + f ≡ r + unrung + h
    by_sums p q r f h x y z = omega arith
