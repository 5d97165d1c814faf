-- What the driver's end of a closed queue has of what the engine returned.
use Rattle.std.proofs.Common.{◌≡◌, ℕ, ◌+◌, ◌≤◌, List, [], ◌∷◌, ◌++◌, length, length-append, append-nil, take, drop, map, sym, refl, ap, ◌∙◌, subst, arith}
use Rattle.std.proofs.Math.ListN.{drop_of_length-le}
use Rattle.std.proofs.lemmas.List.{length-drop}
use mathlib.Core.List.{IsPrefix}
use Rattle.ifl_desc.specs.declared.desc.Desc.{Desc}
use Rattle.ifl_desc.specs.declared.history.Event.{Event}
use Rattle.ifl_desc.specs.declared.history.Side.{Side}
use Rattle.ifl_desc.specs.declared.history.Side.TheVariants.{Driver, Device}
use Rattle.ifl_desc.specs.Calls.{Meets}
use Rattle.ifl_desc.specs.Closed.{ClosedSees, Closes, IsClosed, left_of, whole_list}
use Rattle.ifl_desc.specs.Ends.{DriverSees, DeviceSees, completed, posted}
use Rattle.ifl_desc.specs.Frames.{AreAlike, AreReturnsOf}
use Rattle.ifl_desc.specs.History.{sent}
use Rattle.ifl_device.specs.Adapter.{as_posted}
use Rattle.ifl_device.specs.Engine.{EngineSees, IsEngine, returned}
use Rattle.ifl_txq.specs.Standing.{IsFaithful}
use Rattle.ifl_desc.proofs.Lengths.{met_heard}
use Rattle.ifl_desc.proofs.Steps.{sent_append}

alike : (p d : Desc) → as_posted d ≡ as_posted p → AreAlike p d
alike p d e = record { seg = ap (λ (z : Desc). z.seg) e; ticket = ap (λ (z : Desc). z.ticket) e; stamp = ap (λ (z : Desc). z.stamp) e; last = ap (λ (z : Desc). z.last) e }

abbrev first_or : Desc → List Desc → Desc
first_or d [] = d
first_or d (x ∷ xs) = x

abbrev pub rest_of : List Desc → List Desc
rest_of [] = []
rest_of (x ∷ xs) = xs

-- entries that are as posted, at their places, are returns
alike_all : (ps ds : List Desc) → map as_posted ds ≡ map as_posted (take (length ds) ps) → AreReturnsOf ps ds
alike_all ps [] e = tt
alike_all [] (d ∷ ds) e = absurd (cc)
alike_all (p ∷ ps) (d ∷ ds) e = (alike p d (ap (first_or p) e), alike_all ps ds (ap rest_of e))

returns_more : (ps qs ds : List Desc) → AreReturnsOf ps ds → AreReturnsOf (ps ++ qs) ds
returns_more ps qs [] h = tt
returns_more [] qs (d ∷ ds) h = absurd h
returns_more (p ∷ ps) qs (d ∷ ds) (a, h) = (a, returns_more ps qs ds h)

returns_less : (ps ds es : List Desc) → AreReturnsOf ps (ds ++ es) → AreReturnsOf ps ds
returns_less ps [] es h = tt
returns_less [] (d ∷ ds) es h = absurd h
returns_less (p ∷ ps) (d ∷ ds) es (a, h) = (a, returns_less ps ds es h)

length-returns : (ps ds : List Desc) → AreReturnsOf ps ds → length ds ≤ length ps
length-returns ps [] h = omega arith
length-returns [] (d ∷ ds) h = absurd h
length-returns (p ∷ ps) (d ∷ ds) (a, h) = let t = length-returns ps ds h in omega arith

nil_of : (l : List Desc) → length l ≡ 0 → l ≡ []
nil_of [] e = refl
nil_of (x ∷ xs) e = absurd (omega arith)

-- what a side has sent by the end of a longer history
sent_on : (r : Side) (g h : List Event) (p : IsPrefix g h) → sent r h ≡ sent r g ++ sent r p.0
sent_on r g h p = ap (sent r) (sym p.1) ∙ sent_append r g p.0

module _ (d d' : DriverSees) (e : EngineSees) (v' : DeviceSees) (k : IsEngine e) (m : Meets d e.device d' v') where
  -- the driver's own entries are all that the device has heard of, and more
  all_returned : AreReturnsOf (sent Driver d.seen) (returned e)
  all_returned = let heard = met_heard d d' e.device v' m in
      let on : sent Driver d.seen ≡ sent Driver e.device.seen ++ sent Driver m.of_device.0 = sym heard.1 ∙ sent_on Driver e.device.seen v'.seen m.of_device in
      subst (λ (z : List Desc). AreReturnsOf z (returned e)) (sym on) (returns_more (sent Driver e.device.seen) (sent Driver m.of_device.0) (returned e) (alike_all (sent Driver e.device.seen) (returned e) k.same))

  known_returned : returned e ≡ sent Device d.seen ++ sent Device m.of_driver.0
  known_returned = let heard = met_heard d d' e.device v' m in sym heard.0 ∙ sent_on Device d.seen d'.seen m.of_driver

  -- an engine returns all as it was posted but for the status
  pub faithful : IsFaithful d
  faithful = returns_less (sent Driver d.seen) (sent Device d.seen) (sent Device m.of_driver.0) (subst (AreReturnsOf (sent Driver d.seen)) known_returned all_returned)

  -- a driver that has all back knows all that was returned
  pub returned_all : length (sent Device d.seen) ≡ length (sent Driver d.seen) → returned e ≡ sent Device d.seen
  returned_all same = let most = length-returns (sent Driver d.seen) (returned e) all_returned in
      let long : length (returned e) ≡ length (sent Device d.seen) + length (sent Device m.of_driver.0) = ap length known_returned ∙ length-append (sent Device d.seen) (sent Device m.of_driver.0) in
      known_returned ∙ ap (λ (z : List Desc). sent Device d.seen ++ z) (nil_of (sent Device m.of_driver.0) (omega arith)) ∙ append-nil (sent Device d.seen)

  -- an engine that holds nothing has returned all that it fetched
  pub met_done : e.held ≡ [] → (completed v' ≡ v'.fetched) × (v'.ready ≡ [])
  met_done none = let heard = met_heard d d' e.device v' m in
      let same : sent Device v'.seen ≡ returned e = ap (sent Device) m.one_history ∙ heard.0 in let long = ap length same in
      let ready : v'.ready ≡ [] = ap (λ (z : DeviceSees). z.ready) m.device ∙ k.ready in let short = ap length ready in
      let fetched : v'.fetched ≡ e.device.fetched = ap (λ (z : DeviceSees). z.fetched) m.device in let all = k.fetched in let nothing = ap length none in
      (omega arith, ready)

  -- what a closed ring has of it
  pub closed_returned : (c : ClosedSees) → Closes d' v' c → sent Device c.history ≡ returned e
  closed_returned c is = is.returned ∙ ap (sent Device) m.one_history ∙ (met_heard d d' e.device v' m).0

  -- a driver that has all back leaves nothing
  pub closed_left : (c : ClosedSees) → Closes d' v' c → IsClosed c → posted d ≡ d.back → left_of c ≡ []
  closed_left c is lawful done = let heard = met_heard d d' e.device v' m in
      let rung : sent Driver c.history ≡ sent Driver d.seen = is.rung ∙ ap (sent Driver) (sym m.one_history) ∙ heard.1 in let rungs = ap length rung in
      let pending : c.pending ≡ d.pending = is.pending ∙ ap (λ (z : DriverSees). z.pending) m.driver in let waits = ap length pending in
      let back : c.back ≡ d.back = is.back ∙ ap (λ (z : DriverSees). z.back) m.driver in
      let n : ℕ = length (sent Device c.history) in let bound = lawful.lengths.fetched in let under = lawful.lengths.rung in
      let a = length-append (sent Device c.history) (drop n (sent Driver c.history) ++ c.pending) in let b = length-append (drop n (sent Driver c.history)) c.pending in let cut = length-drop n (sent Driver c.history) in
      drop_of_length-le (whole_list c) (omega arith)
