-- A queue after looks, doorbells and several steps.
use Rattle.std.proofs.Common.{◌≡◌, ℕ, suc, List, [], ◌∷◌, ◌++◌, length, take, sym, refl, ap, ◌∙◌, subst, arith, append-nil, append_assoc}
use mathlib.Core.List.{IsPrefix}
use Rattle.std.proofs.lemmas.List.{take-append-le}
use Rattle.ifl_ringcore.specs.declared.history.Meaning.{Meaning}
use Rattle.ifl_desc.specs.declared.desc.Desc.{Desc}
use Rattle.ifl_desc.specs.declared.history.Side.TheVariants.{Driver, Device}
use Rattle.ifl_desc.specs.declared.history.Event.{Event}
use Rattle.ifl_desc.specs.declared.history.Event.TheVariants.{Sent}
use Rattle.ifl_desc.specs.declared.port.PortState.{PortState}
use Rattle.ifl_desc.specs.declared.port.PortState.TheVariants as state
use Rattle.ifl_desc.specs.History.{sent, known, looks, bells}
use Rattle.ifl_desc.specs.Frames.{frames_of}
use Rattle.ifl_desc.specs.Ends.{DriverSees, IsDriver}
use Rattle.ifl_desc.specs.Calls.{Grew, Credits}
use Rattle.ifl_desc.specs.Port.{ReaderState, state_of, last_after, IsLegalAfter, IsSetting, MayFollow}
use Rattle.ifl_desc.proofs.AfterSteps.{grew_sent, grew_known, grew_prefix}
use Rattle.ifl_desc.proofs.Looking.{grew_looks, bells_Flushes}
use Rattle.ifl_desc.proofs.Closing.{prefix_trans}
use Rattle.ifl_desc.proofs.Steps.{sent_append}
use Rattle.ifl_txq.specs.Queue.{QueueSees, IsQueue, origin_of, posted_list, reclaimed_list, SawFlush, IsRung}
use Rattle.ifl_txq.specs.Standing.{QueueStandsFor, IsFaithful}
use Rattle.ifl_txq.specs.Calls.{boarded}
use Rattle.ifl_txq.specs.Steps.{Took, LookedBack, LookedOnce, RangOnce}
use Rattle.ifl_txq.proofs.Standing.{faithful_before, back_there, stands_keeps}

-- after Flush the port stays so
stays_flush : (s : PortState) (xs more : List PortState) → last_after s xs ≡ state.Flush → IsLegalAfter s (xs ++ more) → last_after s (xs ++ more) ≡ state.Flush
stays_flush s [] [] e l = e
stays_flush s [] (state.Up ∷ more) e l = absurd (subst (λ (z : PortState). MayFollow z state.Up) e l.0)
stays_flush s [] (state.Down ∷ more) e l = absurd (subst (λ (z : PortState). MayFollow z state.Down) e l.0)
stays_flush s [] (state.Flush ∷ more) e l = stays_flush state.Flush [] more refl l.1
stays_flush s (x ∷ xs) more e l = stays_flush x xs more e l.1

pub flush_seen : (r q : ReaderState) → IsPrefix r.known q.known → IsSetting q.known → SawFlush r → SawFlush q
flush_seen r q p l s =
    subst (λ (z : List PortState). state_of z ≡ state.Flush) p.1 (stays_flush state.Up r.known p.0 s (subst (IsLegalAfter state.Up) (sym p.1) l))

pub looked_stands : (a b : QueueSees) (found : PortState) → LookedOnce a found b → (ms : List Meaning) → QueueStandsFor a ms → QueueStandsFor b ms
looked_stands a b found l = stands_keeps a b
    (subst (λ (z : DriverSees). (IsFaithful z → IsFaithful a.driver)) (sym same_driver) (λ f. f))
    (ap (λ (z : QueueSees). z.log) l.same) (ap (λ (z : QueueSees). z.max_segs) l.same)
    (flush_seen a.reader b.reader l.knows l.lawful) (ap posted_list same_driver) (ap reclaimed_list same_driver) (ap (λ (z : DriverSees). z.back) same_driver) (ap (λ (z : QueueSees). z.pass) l.same)
  where
    same_driver : b.driver ≡ a.driver
    same_driver = ap (λ (z : QueueSees). z.driver) l.same

-- a longer history
longer : (g h : List Event) → IsPrefix g h → (more : List Desc) × (sent Device h ≡ sent Device g ++ more)
longer g h p = (sent Device p.0, ap (sent Device) (sym p.1) ∙ sent_append Device g p.0)

-- what was reclaimed stands where it stood
reclaimed_stays : (d e : DriverSees) → IsDriver d → IsPrefix d.seen e.seen → e.back ≡ d.back → reclaimed_list e ≡ reclaimed_list d
reclaimed_stays d e k p back = let m = longer d.seen e.seen p in
    ap (λ (z : ℕ). take z (sent Device e.seen)) back ∙ ap (take d.back) m.1 ∙ take-append-le d.back (sent Device d.seen) m.0 (back_there d k)

pub looked_back_stands : (a b : QueueSees) → IsQueue a → LookedBack a b → (ms : List Meaning) → QueueStandsFor a ms → QueueStandsFor b ms
looked_back_stands a b lawful l =
    let c : Credits a.driver l.0.0 b.driver = l.0.1 in stands_keeps a b
    (faithful_before a.driver b.driver lawful.lawful c.goes_on)
    (ap (λ (z : QueueSees). z.log) l.1) (ap (λ (z : QueueSees). z.max_segs) l.1)
    (λ s. subst SawFlush (sym (ap (λ (z : QueueSees). z.reader) l.1)) s)
    (λ i. c.rings_not i ++ (c.same i).pending)
    (reclaimed_stays a.driver b.driver lawful.lawful c.goes_on (ap (λ (z : DriverSees). z.back) c.same))
    (ap (λ (z : DriverSees). z.back) c.same) (ap (λ (z : QueueSees). z.pass) l.1)

module _ (a b : QueueSees) (lawful : IsQueue a) (r : RangOnce a b) where
  abbrev step : Event
  step = Sent Driver a.driver.pending

  abbrev grew : Grew Driver a.driver.seen b.driver.seen step
  grew = r.0.0

  no_more : b.driver.pending ≡ []
  no_more = ap (λ (z : DriverSees). z.pending) r.0.1

  same_back : b.driver.back ≡ a.driver.back
  same_back = ap (λ (z : DriverSees). z.back) r.0.1

  prefix : IsPrefix a.driver.seen b.driver.seen
  prefix = grew_prefix Driver a.driver.seen b.driver.seen step grew

  pub rang_list : posted_list b.driver ≡ posted_list a.driver
  rang_list = ap (λ (z : List Desc). sent Driver b.driver.seen ++ z) no_more ∙ append-nil (sent Driver b.driver.seen)
      ∙ grew_sent Driver a.driver.seen b.driver.seen step grew ∙ ap (λ (z : List Desc). sent Driver a.driver.seen ++ z) (append-nil a.driver.pending)

  pub rang_rung : IsRung b.driver
  rang_rung = ap length no_more

  rang_looks : looks Driver b.driver.seen ≡ looks Driver a.driver.seen
  rang_looks = let c = grew_looks Driver a.driver.seen b.driver.seen step grew in omega arith

  pub rang_bell : bells b.driver.seen ≡ suc (bells a.driver.seen)
  rang_bell = bells_Flushes a.driver b.driver r.0

  rang_known : known Driver b.driver.seen ≡ known Driver a.driver.seen
  rang_known = let k = grew_known Driver a.driver.seen b.driver.seen step grew in omega arith

  rang_stands : (ms : List Meaning) → QueueStandsFor a ms → QueueStandsFor b ms
  rang_stands = stands_keeps a b
      (faithful_before a.driver b.driver lawful.lawful prefix)
      (ap (λ (z : QueueSees). z.log) r.1) (ap (λ (z : QueueSees). z.max_segs) r.1)
      (λ s. subst SawFlush (sym (ap (λ (z : QueueSees). z.reader) r.1)) s)
      rang_list (reclaimed_stays a.driver b.driver lawful.lawful prefix same_back) same_back (ap (λ (z : QueueSees). z.pass) r.1)

  pub rang_took : Took [] a b
  rang_took = record {
    origin = ap origin_of r.1;
    reader = ap (λ (z : QueueSees). z.reader) r.1;
    goes_on = prefix;
    back = same_back;
    knows = rang_known;
    looked = rang_looks;
    stands = λ ms s. subst (QueueStandsFor b) (sym (append-nil ms)) (rang_stands ms s);
  }

  pub rang_boarded : boarded b ≡ boarded a
  rang_boarded = ap (λ (z : List Desc). length (frames_of z)) rang_list

-- nothing was taken
pub took_none : (a : QueueSees) → Took [] a a
took_none a = record {
  origin = refl;
  reader = refl;
  goes_on = ([], append-nil a.driver.seen);
  back = refl;
  knows = refl;
  looked = refl;
  stands = λ ms s. subst (QueueStandsFor a) (sym (append-nil ms)) s;
}

-- some items, and then others
pub took_both : (xs ys : List Meaning) (a m b : QueueSees) → Took xs a m → Took ys m b → Took (xs ++ ys) a b
took_both xs ys a m b x y = record {
  origin = y.origin ∙ x.origin;
  reader = y.reader ∙ x.reader;
  goes_on = prefix_trans a.driver.seen m.driver.seen b.driver.seen x.goes_on y.goes_on;
  back = y.back ∙ x.back;
  knows = y.knows ∙ x.knows;
  looked = y.looked ∙ x.looked;
  stands = λ ms s. subst (QueueStandsFor b) (append_assoc ms xs ys) (y.stands (ms ++ xs) (x.stands ms s));
}
