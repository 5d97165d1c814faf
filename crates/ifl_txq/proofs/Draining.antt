-- A drain, by what the port said.
use Rattle.std.proofs.Common.{◌≡◌, ℕ, ◌+◌, ◌<◌, ◌≤◌, inl, inr, List, [], ◌∷◌, ◌++◌, length, take, drop, Some, sym, refl, ap, ◌∙◌, subst, arith}
use Rattle.std.specs.Int.{div_ceil}
use Rattle.ifl_ringcore.specs.declared.history.Meaning.{Meaning}
use Rattle.ifl_desc.specs.declared.history.Side.TheVariants.{Driver}
use Rattle.ifl_desc.specs.declared.port.PortState.{PortState}
use Rattle.ifl_desc.specs.declared.port.PortState.TheVariants as state
use Rattle.ifl_desc.specs.History.{known, looks, bells}
use Rattle.ifl_desc.specs.Ends.{DriverSees}
use Rattle.ifl_desc.specs.Port.{ReaderState}
use Rattle.ifl_txq.specs.declared.item.Item.{Item}
use Rattle.ifl_desc.specs.Frames.{frames_of}
use Rattle.ifl_txq.specs.Queue.{QueueSees, IsQueue, IsRung, IsFull, Origin, origin_of, posted_list, SawFlush}
use Rattle.ifl_txq.specs.Standing.{QueueStandsFor}
use Rattle.ifl_txq.specs.Calls.{Reclaimed, Rings, FoundFull, boarded}
use Rattle.ifl_txq.specs.Steps.{Begun, Took, LookedOnce, SentAll}
use Rattle.ifl_txq.proofs.Moves.{looked_stands}
use Rattle.ifl_txq.proofs.Loops.{ceil_is}

pub begun : (o r l : QueueSees) (found : PortState) → origin_of r ≡ origin_of o → ((ms : List Meaning) → QueueStandsFor o ms → QueueStandsFor r ms) → Reclaimed o r → LookedOnce r found l → Begun o found l
begun o r l found origin stands did look =
    let d : l.driver ≡ r.driver = ap (λ (z : QueueSees). z.driver) look.same in
    let reader : r.reader ≡ o.reader = ap (λ (z : QueueSees). z.reader) did.same in record {
      stands = λ ms s. looked_stands r l found look ms (stands ms s);
      origin = ap origin_of look.same ∙ origin;
      pending = ap (λ (z : DriverSees). z.pending) d ∙ did.pending;
      told = ap (λ (z : DriverSees). z.back) d ∙ did.told ∙ ap (λ (z : DriverSees). known Driver z.seen) (sym d);
      looked = subst (λ (z : DriverSees). looks Driver o.driver.seen < looks Driver z.seen) (sym d) did.looked;
      loads = ap (λ (z : ReaderState). z.loads) look.reader ∙ ap (λ (z : ReaderState). z.loads + 1) reader;
      found_is = ap (λ (z : ReaderState). z.found) look.reader;
      state = look.is;
      frames = ap (λ (z : DriverSees). length (frames_of (posted_list z))) d ∙ (λ i. length (frames_of (did.rings_not i ++ did.pending i)));
      bells_are = ap (λ (z : DriverSees). bells z.seen) d ∙ did.bells_are;
    }

module _ (o l : QueueSees) (found : PortState) (g : Begun o found l) where
  pub begun_rung : IsRung o.driver → IsRung l.driver
  begun_rung r = ap length g.pending ∙ r

  -- what was taken then
  pub drained_stands : (b : QueueSees) (items : List Meaning) → Took items l b → (ms : List Meaning) → QueueStandsFor o ms → QueueStandsFor b (ms ++ items)
  drained_stands b items t ms s = t.stands ms (g.stands ms s)

  pub drained_origin : (b : QueueSees) (items : List Meaning) → Took items l b → origin_of b ≡ origin_of o
  drained_origin b items t = t.origin ∙ g.origin

  every_same : l.doorbell_every ≡ o.doorbell_every
  every_same = ap (λ (z : Origin). z.doorbell_every) g.origin

  -- nothing was posted
  pub drained_none : (b : QueueSees) → IsQueue b → b.driver ≡ l.driver → b.doorbell_every ≡ l.doorbell_every → Rings o b
  drained_none b k d every = let e = k.some_every in let x = every ∙ every_same in let f = ap (λ (z : DriverSees). length (frames_of (posted_list z))) d ∙ g.frames in let h = ap (λ (z : DriverSees). bells z.seen) d ∙ g.bells_are in
      (0, (let y : boarded b ≡ boarded o + 0 = omega arith in y), (let c = ceil_is 0 o.doorbell_every 0 (omega arith) (omega arith) (omega arith) in omega arith))

  pub drained_all : (b : QueueSees) (batch left : List Item) (count : ℕ) → SentAll l batch count b left → Rings o b
  drained_all b batch left count s =
      let f = s.rings.1 in let h = s.rings.2 in let x = g.frames in let y = g.bells_are in
      let z : div_ceil s.rings.0 l.doorbell_every ≡ div_ceil s.rings.0 o.doorbell_every = ap (div_ceil s.rings.0) every_same in
      (s.rings.0, (omega arith), (omega arith))

  -- it was full
  pub drained_full : (b : QueueSees) (batch left : List Item) (count : ℕ) → 1 ≤ length batch → SentAll l batch count b left → count ≡ 0 → IsFull b × FoundFull o b
  drained_full b batch left count some s none =
      let room = s.fewer (omega arith) in let told : b.driver.back ≡ known Driver b.driver.seen = s.took.back ∙ g.told ∙ sym s.took.knows in
      let looked = s.took.looked in let was = g.looked in
      (inl (told, room), inl ((omega arith), told, room))

  pub drained_down : found ≡ state.Down → IsFull l × FoundFull o l
  drained_down e = let f : l.reader.found ≡ Some state.Down = g.found_is ∙ ap Some e in (inr f, inr (g.loads, f))

  pub drained_saw : found ≡ state.Flush → SawFlush l.reader
  drained_saw e = sym g.state ∙ e

  pub drained_up : found ≡ state.Up → SawFlush l.reader → ⊥
  drained_up e s = up_is_not (sym e ∙ g.state ∙ s)
    where
      up_is_not : state.Up ≡ state.Flush → ⊥
      up_is_not x = cc

pub drop_all : {X : Type 0} (xs : List X) → drop (length xs) xs ≡ []
drop_all [] = refl
drop_all (x ∷ xs) = drop_all xs

pub take_whole : {X : Type 0} (xs : List X) → take (length xs) xs ≡ xs
take_whole [] = refl
take_whole (x ∷ xs) = ap (λ z. x ∷ z) (take_whole xs)
