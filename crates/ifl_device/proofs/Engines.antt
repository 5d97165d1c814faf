-- An engine after each of its steps.
use Rattle.std.proofs.Common.{◌≡◌, ℕ, suc, ◌+◌, ◌*◌, ◌^◌, ◌<◌, ◌≤◌, Bool, true, false, List, [], ◌∷◌, ◌++◌, length, map, take, sym, refl, ap, ◌∙◌, subst, arith, append-nil, append_assoc, length-append}
use Rattle.std.specs.List.{flat_map}
use Rattle.std.specs.Bool.{OnTrue, OnFalse}
use Rattle.std.proofs.lemmas.List.{take-append-le, map-append, length-map}
use Rattle.ifl_pcap.specs.declared.frame.Frame.{Frame}
use Rattle.ifl_pcap.specs.File.{written, written_header, record_of}
use Rattle.ifl_pcap.proofs.Parts.{length-record_of}
use Rattle.ifl_desc.specs.declared.desc.Desc.{Desc}
use Rattle.ifl_desc.specs.declared.history.Side.TheVariants.{Driver, Device}
use Rattle.ifl_desc.specs.declared.history.Event.{Event}
use Rattle.ifl_desc.specs.declared.history.Event.TheVariants.{Sent, Looked, Cleared}
use Rattle.ifl_desc.specs.History.{sent, known, own, looks, looks_in}
use Rattle.ifl_desc.specs.Frames.{open_after, frames_of, IsWholeFrame}
use Rattle.ifl_desc.specs.Ends.{DeviceSees, IsDevice}
use Rattle.ifl_desc.specs.Calls.{Grew, Fetches}
use Rattle.ifl_desc.proofs.AfterSteps.{grew_sent, grew_known, grew_prefix, grew_other, kept_sent}
use Rattle.atomic_table.specs.Seated.{TableId}
use Rattle.ifl_desc.specs.Port.{WriterState}
use Rattle.ifl_device.specs.declared.plan.EnginePlan.{EnginePlan}
use Rattle.ifl_desc.specs.declared.desc.Status.{Status}
use Rattle.ifl_desc.specs.declared.desc.Status.TheVariants.{Emitted}
use Rattle.ifl_desc.specs.declared.port.PortState.TheVariants.{Up, Flush}
use Rattle.ifl_desc.specs.Port.{state_of}
use Rattle.ifl_device.specs.Adapter.{status_of, captured, as_posted, returned_as, emitted_among, on_wire, is_emitted, IsOutcome, AreReturned}
use Rattle.ifl_device.specs.Outcomes.{one_if, is_aborted, emitted_in, aborted_in, KeepsPlan}
use Rattle.ifl_device.specs.Wire.{WireSees}
use Rattle.ifl_device.specs.Engine.{EngineSees, IsEngine, IsHeld, Returns, engine_of, returned, outcomes}
use Rattle.ifl_device.specs.Turns.{LooksOnce, LooksNot, IsTold, IsDrained, EndsFrame, Takes}
use Rattle.ifl_device.proofs.Records.{header_length}
use Rattle.ifl_device.proofs.Outcomes.{on_wire_none, emitted_count, among_more, wire_count, emitted_more, aborted_more, status_returned, is_returned, are_returned, posted_again, again_returned, Follows, plan_more}
use Rattle.ifl_desc.proofs.Splitting.{frames_more, sent_whole, returned_open}
use Rattle.ifl_device.proofs.Splitting.{whole_returned, captured_returned, open_posted}

no_event : {e : Event} {u : List Event} → e ∷ u ≡ [] → ⊥
no_event {e} {u} p = let l : suc (length u) ≡ 0 = ap length p in omega arith

looks_none : (h : List Event) → own Device h ≡ [] → looks Device h ≡ 0
looks_none [] o = refl
looks_none (Sent Driver ds ∷ h) o = let i = looks_none h o in omega arith
looks_none (Sent Device ds ∷ h) o = absurd (no_event o)
looks_none (Looked Driver n ∷ h) o = let i = looks_none h o in omega arith
looks_none (Looked Device n ∷ h) o = absurd (no_event o)
looks_none (Cleared n ∷ h) o = let i = looks_none h o in omega arith

looks_append : (g h : List Event) → looks Device (g ++ h) ≡ looks Device g + looks Device h
looks_append [] h = omega arith
looks_append (e ∷ g) h = let i = looks_append g h in omega arith

-- how often the device looked, where one step of its own stands last
pub looks_grew : (g h : List Event) (e : Event) → Grew Device g h e → looks Device h ≡ looks Device g + looks_in Device e
looks_grew g h e w = let a = ap (looks Device) w.1 in let b = looks_append (g ++ w.0) (e ∷ []) in let c = looks_append g w.0 in let d = looks_none w.0 w.2 in omega arith

pub flat_more : (xs ys : List Frame) → flat_map record_of (xs ++ ys) ≡ flat_map record_of xs ++ flat_map record_of ys
flat_more [] ys = refl
flat_more (x ∷ xs) ys = ap (λ (z : List ℕ). record_of x ++ z) (flat_more xs ys) ∙ sym (append_assoc (record_of x) (flat_map record_of xs) (flat_map record_of ys))

pub flat_one : (f : Frame) → flat_map record_of (f ∷ []) ≡ record_of f
flat_one f = append-nil (record_of f)

-- the capture of some frames more
written_more : (fs gs : List Frame) → written (fs ++ gs) ≡ written fs ++ flat_map record_of gs
written_more fs gs = ap (λ (z : List ℕ). written_header ++ z) (flat_more fs gs) ∙ sym (append_assoc written_header (flat_map record_of fs) (flat_map record_of gs))

-- the capture of one frame more
pub written_one : (fs : List Frame) (f : Frame) → written (fs ++ f ∷ []) ≡ written fs ++ record_of f
written_one fs f = written_more fs (f ∷ []) ∙ ap (λ (z : List ℕ). written fs ++ z) (flat_one f)

record_long : (f : Frame) → 16 ≤ length (record_of f)
record_long f = omega (arith, length-record_of f)

flat_long : (fs : List Frame) → 16 * length fs ≤ length (flat_map record_of fs)
flat_long [] = omega arith
flat_long (f ∷ fs) = let i = flat_long fs in let r = record_long f in let a = length-append (record_of f) (flat_map record_of fs) in omega arith

-- each frame has at least 16 bytes of the capture
pub written_long : (fs : List Frame) → 16 * length fs ≤ length (written fs)
written_long fs = let i = flat_long fs in let a = length-append written_header (flat_map record_of fs) in omega arith

pub some_held : (ds : List Desc) → IsWholeFrame ds → 0 < length ds
some_held [] w = absurd w
some_held (d ∷ ds) w = omega arith

-- the bytes of a frame that is emitted
pub emitted_bytes : (bytes : List ℕ) (ds : List Desc) → bytes ++ record_of (captured ds) ≡ bytes ++ flat_map record_of (map captured (on_wire Emitted (map (returned_as Emitted) ds ∷ [])))
emitted_bytes bytes ds = ap (λ (z : List ℕ). bytes ++ z) (ap record_of (sym (captured_returned Emitted ds)) ∙ sym (flat_one (captured (map (returned_as Emitted) ds))))

no_bytes : (bytes : List ℕ) (s : Status) → bytes ≡ bytes ++ flat_map record_of (map captured (on_wire s []))
no_bytes bytes s = sym (ap (λ (z : List (List Desc)). bytes ++ flat_map record_of (map captured z)) (on_wire_none s) ∙ append-nil bytes)

no_count : (n : ℕ) (s : Status) → n ≡ n + length (on_wire {X = List Desc} s [])
no_count n s = let l : length (on_wire {X = List Desc} s []) ≡ 0 = ap length (on_wire_none s) in omega arith

module _ (e : EngineSees) (k : IsEngine e) where
  abbrev list : List Desc
  list = sent Driver e.device.seen

  -- what was fetched was rung
  fetched_there : e.device.fetched ≤ length list
  fetched_there = let w = k.lawful.within in let o = (k.lawful.lawful.order e.device.seen ([], append-nil e.device.seen)).heard in omega arith

  returned_there : length (returned e) ≤ length list
  returned_there = let f = fetched_there in let c = k.fetched in omega arith

  known_there : known Device e.device.seen ≤ length list
  known_there = (k.lawful.lawful.order e.device.seen ([], append-nil e.device.seen)).heard

  pub few_emitted : e.wire.room < 2 ^ 64 → e.emitted < 2 ^ 63
  few_emitted small = let fs : List (List Desc) = emitted_among (frames_of (returned e)) in let w = written_long (map captured fs) in let l = length-map fs captured in let b = ap length k.wire in let r = k.room in let c = k.emitted ∙ emitted_count (frames_of (returned e)) in
      let s : e.wire.room < 18446744073709551616 = small in (let g : e.emitted < 9223372036854775808 = omega arith in g)

  -- the engine looked at the doorbell
  module _ (n : ℕ) (d : DeviceSees) (f : Fetches e.device n d) (lawful : IsDevice d) where
    abbrev looked : EngineSees
    looked = engine_of e.ring e.port e.plan d e.writer e.wire e.held e.emitted e.cleared e.downs

    same_returned : sent Device d.seen ≡ returned e
    same_returned = kept_sent Device e.device.seen d.seen n f.0

    longer : (more : List Desc) × (sent Driver d.seen ≡ list ++ more)
    longer = grew_other Device e.device.seen d.seen (Looked Device n) f.0 Driver

    same_fetched : d.fetched ≡ e.device.fetched
    same_fetched = ap (λ (z : DeviceSees). z.fetched) f.1

    pub look_engine : IsEngine looked
    look_engine =
        let m = longer in
        let front : take (length (returned e)) (sent Driver d.seen) ≡ take (length (returned e)) list = ap (take (length (returned e))) m.1 ∙ take-append-le (length (returned e)) list m.0 returned_there in
        let all : take e.device.fetched (sent Driver d.seen) ≡ take e.device.fetched list = ap (take e.device.fetched) m.1 ∙ take-append-le e.device.fetched list m.0 fetched_there in record {
          own = ap (λ (z : DeviceSees). z.ring) f.1 ∙ k.own;
          writer = k.writer;
          lawful = lawful;
          ready = ap (λ (z : DeviceSees). z.ready) f.1 ∙ k.ready;
          same = ap (map as_posted) same_returned ∙ k.same ∙ ap (map as_posted) (sym front ∙ ap (λ (z : List Desc). take (length z) (sent Driver d.seen)) (sym same_returned));
          held = ap (λ (z : ℕ). take z (sent Driver d.seen)) same_fetched ∙ all ∙ k.held ∙ ap (λ (z : List Desc). z ++ e.held) (sym front ∙ ap (λ (z : List Desc). take (length z) (sent Driver d.seen)) (sym same_returned));
          fetched = same_fetched ∙ k.fetched ∙ ap (λ (z : List Desc). length z + length e.held) (sym same_returned);
          whole = k.whole;
          short = k.short;
          outcome = subst (λ (z : List Desc). AreReturned (frames_of z)) (sym same_returned) k.outcome;
          wire = k.wire ∙ ap (λ (z : List Desc). written (map captured (emitted_among (frames_of z)))) (sym same_returned);
          room = k.room;
          emitted = k.emitted ∙ ap (λ (z : List Desc). emitted_in (map status_of (frames_of z))) (sym same_returned);
          hangs = k.hangs;
          once = λ h c. ap (λ (z : List Desc). aborted_in (map status_of (frames_of z))) same_returned ∙ k.once h c;
          planned = λ h. subst (λ (z : List Desc). KeepsPlan e.plan e.ring.slots (map status_of (frames_of z)) (state_of e.writer.known)) (sym same_returned) (k.planned h);
        }

    pub look_once : LooksOnce e.device.seen d.seen
    look_once = let a = looks_grew e.device.seen d.seen (Looked Device n) f.0 in record {
      once = omega arith;
      then = d.seen;
      before = grew_prefix Device e.device.seen d.seen (Looked Device n) f.0;
      after = ([], append-nil d.seen);
      all = f.2;
      still = refl;
    }

    pub look_sends : (s : Status) → Returns s [] e looked
    look_sends s = record {
      ring = refl;
      port = refl;
      plan = refl;
      writer = refl;
      room = refl;
      cleared = refl;
      downs = refl;
      goes_on = grew_prefix Device e.device.seen d.seen (Looked Device n) f.0;
      frames_are = ap frames_of same_returned ∙ sym (append-nil (frames_of (returned e)));
      each = refl;
      bytes = no_bytes e.wire.bytes s;
      count = no_count e.emitted s;
    }

    pub look_kept : returned looked ≡ returned e
    look_kept = same_returned

    pub look_told : IsTold looked
    look_told = ap (λ (z : ℕ). open_after 0 (take z (sent Driver d.seen))) f.2 ∙ ap (open_after 0) (take_all (sent Driver d.seen)) ∙ (sent_whole d.seen lawful.lawful.frames).1
      where
        take_all : (l : List Desc) → take (length l) l ≡ l
        take_all [] = refl
        take_all (x ∷ l) = ap (λ (z : List Desc). x ∷ z) (take_all l)

  -- the next frame is held
  module _ (none : e.held ≡ []) (frame : List Desc) (d : DeviceSees) (same : d ≡ record (e.device) { fetched = d.fetched }) (t : Takes e.device frame d) (lawful : IsDevice d) where
    abbrev holding : EngineSees
    holding = engine_of e.ring e.port e.plan d e.writer e.wire frame e.emitted e.cleared e.downs

    seen_same : d.seen ≡ e.device.seen
    seen_same = ap (λ (z : DeviceSees). z.seen) same

    none_held : e.device.fetched ≡ length (returned e)
    none_held = let l = ap length none in let c = k.fetched in omega arith

    is_held : (ds : List Desc) → IsWholeFrame ds → IsHeld ds
    is_held [] w = tt
    is_held (x ∷ ds) w = w

    pub hold_engine : IsEngine holding
    hold_engine = record {
      own = ap (λ (z : DeviceSees). z.ring) same ∙ k.own;
      writer = k.writer;
      lawful = lawful;
      ready = ap (λ (z : DeviceSees). z.ready) same ∙ k.ready;
      same = subst (λ (z : List Event). map as_posted (sent Device z) ≡ map as_posted (take (length (sent Device z)) (sent Driver z))) (sym seen_same) k.same;
      held = subst (λ (z : List Event). take d.fetched (sent Driver z) ≡ take (length (sent Device z)) (sent Driver z) ++ frame) (sym seen_same) (t.list_is ∙ ap (λ (z : ℕ). take z list ++ frame) none_held);
      fetched = t.count ∙ ap (λ (z : ℕ). z + length frame) none_held ∙ ap (λ (z : List Event). length (sent Device z) + length frame) (sym seen_same);
      whole = is_held frame t.whole;
      short = t.short;
      outcome = subst (λ (z : List Event). AreReturned (frames_of (sent Device z))) (sym seen_same) k.outcome;
      wire = k.wire ∙ ap (λ (z : List Event). written (map captured (emitted_among (frames_of (sent Device z))))) (sym seen_same);
      room = k.room;
      emitted = k.emitted ∙ ap (λ (z : List Event). emitted_in (map status_of (frames_of (sent Device z)))) (sym seen_same);
      hangs = k.hangs;
      once = λ h c. ap (λ (z : List Event). aborted_in (map status_of (frames_of (sent Device z)))) seen_same ∙ k.once h c;
      planned = λ h. subst (λ (z : List Event). KeepsPlan e.plan e.ring.slots (map status_of (frames_of (sent Device z))) (state_of e.writer.known)) (sym seen_same) (k.planned h);
    }

    pub hold_sends : (s : Status) → Returns s [] e holding
    hold_sends s = record {
      ring = refl;
      port = refl;
      plan = refl;
      writer = refl;
      room = refl;
      cleared = refl;
      downs = refl;
      goes_on = ([], append-nil e.device.seen ∙ sym seen_same);
      frames_are = ap (λ (z : List Event). frames_of (sent Device z)) seen_same ∙ sym (append-nil (frames_of (returned e)));
      each = refl;
      bytes = no_bytes e.wire.bytes s;
      count = no_count e.emitted s;
    }

    pub hold_looks : LooksNot e holding
    hold_looks = (ap (looks Device) seen_same, ap (known Device) seen_same)

    pub hold_told : IsTold e → IsTold holding
    hold_told told = subst (λ (z : List Event). open_after 0 (take (known Device z) (sent Driver z)) ≡ 0) (sym seen_same) told

  -- what was fetched ends with a frame, where none is held
  pub start_ends : e.held ≡ [] → EndsFrame e.device.fetched e.device
  start_ends none =
      ap (open_after 0) (k.held ∙ ap (λ (z : List Desc). take (length (returned e)) list ++ z) none ∙ append-nil (take (length (returned e)) list))
      ∙ sym (open_posted 0 (take (length (returned e)) list)) ∙ ap (open_after 0) (sym k.same) ∙ open_posted 0 (returned e) ∙ returned_open e.device.seen k.lawful.lawful.frames

  -- a try to hold the next frame
  pub held_by : (taken : Bool) (frame : List Desc) (d : DeviceSees) → e.held ≡ [] → d ≡ record (e.device) { fetched = d.fetched } → IsDevice d → OnTrue taken (Takes e.device frame d)
      → OnFalse taken ((frame ≡ []) × (d ≡ e.device) × (e.device.fetched ≡ known Device e.device.seen)) → IsTold e
      → IsEngine (engine_of e.ring e.port e.plan d e.writer e.wire frame e.emitted e.cleared e.downs)
      × OnTrue taken (((s : Status) → Returns s [] e (engine_of e.ring e.port e.plan d e.writer e.wire frame e.emitted e.cleared e.downs)) × LooksNot e (engine_of e.ring e.port e.plan d e.writer e.wire frame e.emitted e.cleared e.downs) × IsTold (engine_of e.ring e.port e.plan d e.writer e.wire frame e.emitted e.cleared e.downs) × IsWholeFrame frame)
      × OnFalse taken ((engine_of e.ring e.port e.plan d e.writer e.wire frame e.emitted e.cleared e.downs ≡ e) × IsDrained (engine_of e.ring e.port e.plan d e.writer e.wire frame e.emitted e.cleared e.downs))
  held_by true frame d none same lawful t f told = (hold_engine none frame d same t lawful, (hold_sends none frame d same t lawful, hold_looks none frame d same t lawful, hold_told none frame d same t lawful told, t.whole), tt)
  held_by false frame d none same lawful t f told =
      let b : EngineSees = engine_of e.ring e.port e.plan d e.writer e.wire frame e.emitted e.cleared e.downs in
      let is : b ≡ e = λ i. engine_of e.ring e.port e.plan (f.1 i) e.writer e.wire ((f.0 ∙ sym none) i) e.emitted e.cleared e.downs in
      (subst IsEngine (sym is) k, tt, (is, (f.0, ap (λ (z : DeviceSees). z.fetched) f.1 ∙ f.2 ∙ ap (λ (z : DeviceSees). known Device z.seen) (sym f.1))))

  -- the held frame is returned with this status
  module _ (s : Status) (ok : IsOutcome s) (w : IsWholeFrame e.held) (d : DeviceSees) (g : Grew Device e.device.seen d.seen (Sent Device (map (returned_as s) e.held)))
      (same : d ≡ record (e.device) { seen = d.seen }) (lawful : IsDevice d) (wire : WireSees)
      (bytes : wire.bytes ≡ e.wire.bytes ++ flat_map record_of (map captured (on_wire s (map (returned_as s) e.held ∷ []))))
      (room : wire.room ≡ e.wire.room) (fits : length wire.bytes ≤ 24 + wire.room) (n : ℕ) (count : n ≡ e.emitted + one_if (is_emitted s)) where
    abbrev emptied : EngineSees
    emptied = engine_of e.ring e.port e.plan d e.writer wire [] n e.cleared e.downs

    abbrev frame : List Desc
    frame = map (returned_as s) e.held

    abbrev step : Event
    step = Sent Device frame

    returned_is : sent Device d.seen ≡ returned e ++ frame
    returned_is = grew_sent Device e.device.seen d.seen step g ∙ ap (λ (z : List Desc). returned e ++ z) (append-nil frame)

    more_rung : (more : List Desc) × (sent Driver d.seen ≡ list ++ more)
    more_rung = grew_other Device e.device.seen d.seen step g Driver

    fetched_is : d.fetched ≡ e.device.fetched
    fetched_is = ap (λ (z : DeviceSees). z.fetched) same

    as_many : length (sent Device d.seen) ≡ e.device.fetched
    as_many = ap length returned_is ∙ length-append (returned e) frame ∙ ap (λ (z : ℕ). length (returned e) + z) (length-map e.held (returned_as s)) ∙ sym k.fetched

    front : take e.device.fetched (sent Driver d.seen) ≡ take (length (returned e)) list ++ e.held
    front = ap (take e.device.fetched) more_rung.1 ∙ take-append-le e.device.fetched list more_rung.0 fetched_there ∙ k.held

    frames_are : frames_of (sent Device d.seen) ≡ frames_of (returned e) ++ frame ∷ []
    frames_are = ap frames_of returned_is ∙ frames_more (returned e) frame (returned_open e.device.seen k.lawful.lawful.frames) (whole_returned s e.held w)

    pub outcomes_are : outcomes emptied ≡ outcomes e ++ s ∷ []
    outcomes_are = ap (map status_of) frames_are ∙ map-append status_of (frames_of (returned e)) (frame ∷ []) ∙ ap (λ (z : Status). outcomes e ++ z ∷ []) (status_returned s e.held w)

    on_wire_is : map captured (emitted_among (frames_of (sent Device d.seen))) ≡ map captured (emitted_among (frames_of (returned e))) ++ map captured (on_wire s (frame ∷ []))
    on_wire_is = ap (λ (z : List (List Desc)). map captured (emitted_among z)) frames_are ∙ ap (map captured) (among_more (frames_of (returned e)) frame s (status_returned s e.held w))
        ∙ map-append captured (emitted_among (frames_of (returned e))) (on_wire s (frame ∷ []))

    pub return_engine : (e.cleared ≡ false → 0 < e.plan.hang_after → n ≤ e.plan.hang_after) → (e.plan.by_hand ≡ false → e.cleared ≡ false → is_aborted s ≡ false)
        → (e.plan.by_hand ≡ false → Follows e.plan e.ring.slots (outcomes e) (state_of e.writer.known) s) → IsEngine emptied
    return_engine hangs none follows = record {
      own = ap (λ (z : DeviceSees). z.ring) same ∙ k.own;
      writer = k.writer;
      lawful = lawful;
      ready = ap (λ (z : DeviceSees). z.ready) same ∙ k.ready;
      same = ap (map as_posted) returned_is ∙ map-append as_posted (returned e) frame ∙ (λ i. k.same i ++ posted_again s e.held i) ∙ sym (map-append as_posted (take (length (returned e)) list) e.held)
          ∙ ap (map as_posted) (sym front ∙ ap (λ (z : ℕ). take z (sent Driver d.seen)) (sym as_many));
      outcome = subst AreReturned (sym frames_are) (are_returned (frames_of (returned e)) frame k.outcome (is_returned s e.held w ok));
      held = ap (λ (z : ℕ). take z (sent Driver d.seen)) (fetched_is ∙ sym as_many) ∙ sym (append-nil (take (length (sent Device d.seen)) (sent Driver d.seen)));
      fetched = fetched_is ∙ sym as_many ∙ (let g : length (sent Device d.seen) ≡ length (sent Device d.seen) + 0 = omega arith in g);
      whole = tt;
      short = omega arith;
      wire = bytes ∙ ap (λ (z : List ℕ). z ++ flat_map record_of (map captured (on_wire s (frame ∷ [])))) k.wire
          ∙ sym (written_more (map captured (emitted_among (frames_of (returned e)))) (map captured (on_wire s (frame ∷ [])))) ∙ ap written (sym on_wire_is);
      room = fits;
      emitted = count ∙ ap (λ (z : ℕ). z + one_if (is_emitted s)) k.emitted ∙ sym (emitted_more (outcomes e) s) ∙ ap emitted_in (sym outcomes_are);
      hangs = hangs;
      once = λ h c. ap aborted_in outcomes_are ∙ aborted_more (outcomes e) s ∙ (λ i. k.once h c i + one_if (none h c i));
      planned = λ h. subst (λ (z : List Status). KeepsPlan e.plan e.ring.slots z (state_of e.writer.known)) (sym outcomes_are) (plan_more e.plan e.ring.slots (outcomes e) (state_of e.writer.known) s (k.planned h) (follows h));
    }

    pub return_sends : Returns s (frame ∷ []) e emptied
    return_sends = record {
      ring = refl;
      port = refl;
      plan = refl;
      writer = refl;
      room = room;
      cleared = refl;
      downs = refl;
      goes_on = grew_prefix Device e.device.seen d.seen step g;
      frames_are = frames_are;
      each = ap (λ (z : List Desc). z ∷ []) (again_returned s e.held);
      bytes = bytes;
      count = count ∙ ap (λ (z : ℕ). e.emitted + z) (sym (wire_count s frame));
    }

    known_is : known Device d.seen ≡ known Device e.device.seen
    known_is = grew_known Device e.device.seen d.seen step g ∙ (let x : known Device e.device.seen + 0 ≡ known Device e.device.seen = omega arith in x)

    pub return_looks : LooksNot e emptied
    return_looks = (looks_grew e.device.seen d.seen step g ∙ (let x : looks Device e.device.seen + 0 ≡ looks Device e.device.seen = omega arith in x), known_is)

    pub return_told : IsTold e → IsTold emptied
    return_told told = ap (λ (z : ℕ). open_after 0 (take z (sent Driver d.seen))) known_is
        ∙ ap (open_after 0) (ap (take (known Device e.device.seen)) more_rung.1 ∙ take-append-le (known Device e.device.seen) list more_rung.0 known_there) ∙ told

    -- at least one more entry is returned
    pub return_more : length (returned e) < length (returned emptied)
    return_more = let a = as_many in let f = k.fetched in let h = some_held e.held w in omega arith

no_status : (before after : List Status) (s : Status) → [] ≡ before ++ s ∷ after → ⊥
no_status before after s e = let l = ap length e in let m = length-append before (s ∷ after) in omega arith

pub not_flushed : Up ≡ Flush → ⊥
not_flushed e = let x = e in cc

take_none : {A : Type 0} (xs : List A) → take 0 xs ≡ []
take_none [] = refl
take_none (x ∷ xs) = refl

empty : {A : Type 0} (xs : List A) → length xs ≡ 0 → xs ≡ []
empty [] e = refl
empty (x ∷ xs) e = absurd (omega arith)

-- an engine that has emitted nothing
pub new_engine : (ring port : TableId) (plan : EnginePlan) (d : DeviceSees) (writer : WriterState) (wire : WireSees) → d.ring ≡ ring → d.fetched ≡ 0 → d.ready ≡ [] → IsDevice d → writer.port ≡ port → writer.known ≡ [] → wire.bytes ≡ written []
    → IsEngine (engine_of ring port plan d writer wire [] 0 false plan.link_down_turns)
new_engine ring port plan d writer wire own fetched ready lawful of none bytes =
    let l = header_length in let b = ap length bytes in let a = lawful.after in
    let nothing : sent Device d.seen ≡ [] = empty (sent Device d.seen) (omega arith) in
    let posted : List Desc = sent Driver d.seen in
    let o = lawful.lawful.order d.seen ([], append-nil d.seen) in let told = o.told in let heard = o.heard in let within = o.within in
    let slots : 0 < ring.slots = (let s = ap (λ (z : TableId). z.slots) own in let n = ap length nothing in omega arith) in
    let none_taken : take d.fetched posted ≡ [] = ap (λ (n : ℕ). take n posted) fetched ∙ take_none posted in record {
      own = own;
      writer = of;
      lawful = lawful;
      ready = ready;
      same = subst (λ (z : List Desc). map as_posted z ≡ map as_posted (take (length z) posted)) (sym nothing) (ap (map as_posted) (sym (take_none posted)));
      outcome = subst (λ (z : List Desc). AreReturned (frames_of z)) (sym nothing) tt;
      held = subst (λ (z : List Desc). take d.fetched posted ≡ take (length z) posted ++ []) (sym nothing) (none_taken ∙ sym (append-nil (take 0 posted) ∙ take_none posted));
      fetched = (let n = ap length nothing in omega arith);
      whole = tt;
      short = omega arith;
      wire = subst (λ (z : List Desc). wire.bytes ≡ written (map captured (emitted_among (frames_of z)))) (sym nothing) bytes;
      room = omega arith;
      emitted = subst (λ (z : List Desc). 0 ≡ emitted_in (map status_of (frames_of z))) (sym nothing) refl;
      hangs = λ c h. omega arith;
      once = λ h c. subst (λ (z : List Desc). aborted_in (map status_of (frames_of z)) ≡ 0) (sym nothing) refl;
      planned = λ h. subst (λ (z : List Desc). KeepsPlan plan ring.slots (map status_of (frames_of z)) (state_of writer.known)) (sym nothing) record {
        ends = λ before after s e. absurd (no_status before after s e);
        few = slots;
        within = λ n e. omega arith;
        stopped = λ e. absurd (not_flushed (ap state_of (sym none) ∙ e));
      };
    }
