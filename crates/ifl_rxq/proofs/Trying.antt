-- Several tries at frames, one after another.
use Rattle.std.proofs.Common.{◌≡◌, ℕ, ◌+◌, ◌<◌, ◌≤◌, ◌⊎◌, Bool, true, false, List, [], ◌∷◌, ◌++◌, length, take, sym, refl, ap, ◌∙◌, subst, arith, append-nil, append_assoc}
use Rattle.std.specs.Bool.{OnTrue, OnFalse}
use Rattle.ifl_desc.specs.declared.desc.Desc.{Desc}
use Rattle.ifl_desc.specs.declared.history.Event.{Event}
use Rattle.ifl_desc.specs.declared.history.Side.TheVariants.{Driver, Device}
use Rattle.ifl_desc.specs.History.{sent, known, looks}
use Rattle.ifl_desc.specs.Frames.{open_after, IsWholeFrame, frames_of}
use Rattle.ifl_desc.specs.Ends.{DriverSees, IsDriver}
use Rattle.ifl_desc.proofs.Closing.{prefix_trans}
use Rattle.ifl_desc.proofs.Splitting.{frame_alone}
use Rattle.ifl_desc.proofs.Framing.{open_append}
use Rattle.ifl_rxq.proofs.Splits.{frames_both, whole_open}
use Rattle.ifl_device.specs.Engine.{IsHeld}
use Rattle.ifl_rxq.specs.FreeLists.{FreeSees, IsFreeList, GoesOn, Looks, Rests, Holds, Settles, TriesOne, Delivers, IsCaughtUp, HasNoRoom, free_list_of, kept_by, kept_of, settled}
use Rattle.ifl_rxq.proofs.Lists.{hold_list, hold_does, kept_append}

pub goes_both : (a m b : FreeSees) → GoesOn a m → GoesOn m b → GoesOn a b
goes_both a m b x y = record {
  ring = y.ring ∙ x.ring;
  pool = y.pool ∙ x.pool;
  copy_break = y.copy_break ∙ x.copy_break;
  room = y.room ∙ x.room;
  seen = prefix_trans a.driver.seen m.driver.seen b.driver.seen x.seen y.seen;
  part = y.part ∙ x.part;
  excess = (let p = x.excess in let q = y.excess in omega arith);
}

goes_same : (a : FreeSees) → GoesOn a a
goes_same a = record { ring = refl; pool = refl; copy_break = refl; room = refl; seen = ([], append-nil a.driver.seen); part = refl; excess = refl }

pub rests_both : (a m b : FreeSees) → Rests a m → Rests m b → Rests a b
rests_both a m b x y = record { on = goes_both a m b x.on y.on; seen = y.seen ∙ x.seen; taken = y.taken ∙ x.taken }

pub holds_same : (a : FreeSees) → Holds a a
holds_same a = record { rests = record { on = goes_same a; seen = refl; taken = refl }; still = refl; kept = refl; count = refl; host = refl }

pub whole_held : (ds : List Desc) → IsHeld ds → (ds ≡ [] → ⊥) → IsWholeFrame ds
whole_held [] h none = absurd (none refl)
whole_held (d ∷ ds) h none = h

-- what was held, or not, is settled by one try
pub tries_one : (n : ℕ) (a m b : FreeSees) → Holds a m → IsWholeFrame m.held → Settles n m b → TriesOne n a b
tries_one n a m b h w s = record {
  rests = rests_both a m b h.rests s.rests;
  next = (m.held, some m.held w, s.next ∙ ap (λ (z : List Desc). z ++ m.held) h.still);
  whole = w;
  kept = s.kept ∙ (λ i. h.kept i + kept_by (h.rests.on.copy_break i) m.held);
  count = s.count ∙ ap (λ (z : ℕ). z + n) h.count;
}
  where
    some : (ds : List Desc) → IsWholeFrame ds → 0 < length ds
    some [] w = absurd w
    some (d ∷ ds) w = omega arith

-- so far: the list has looked, and delivered so many
pub record SoFar (a b : FreeSees) (n : ℕ) : Type 0 where
  pub on : GoesOn a b
  pub rung : sent Driver b.driver.seen ≡ sent Driver a.driver.seen
  pub taken : b.pass.counts.taken ≡ a.pass.counts.taken
  pub looked : looks Driver a.driver.seen < looks Driver b.driver.seen
  pub known_all : known Driver b.driver.seen ≡ length (sent Device b.driver.seen)
  pub next : (more : List Desc) × (settled b ≡ settled a ++ more)
  pub ends : open_after 0 next.0 ≡ 0
  pub kept : b.kept ≡ a.kept + kept_of a.copy_break (frames_of next.0)
  pub count : b.delivered ≡ a.delivered + n

pub so_far_looked : (a b : FreeSees) → Looks a b → SoFar a b 0
so_far_looked a b l = record {
  on = l.on;
  rung = l.rung;
  taken = ap (λ (z : FreeSees). z.pass.counts.taken) l.same;
  looked = l.looked;
  known_all = l.known_all;
  next = ([], l.still ∙ sym (append-nil (settled a)));
  ends = refl;
  kept = ap (λ (z : FreeSees). z.kept) l.same ∙ (let g : a.kept ≡ a.kept + 0 = omega arith in g);
  count = ap (λ (z : FreeSees). z.delivered) l.same ∙ (let g : a.delivered ≡ a.delivered + 0 = omega arith in g);
}

so_far_rests : (a m b : FreeSees) (n : ℕ) → SoFar a m n → Rests m b → (more : List Desc) → settled b ≡ settled m ++ more → open_after 0 more ≡ 0 → b.kept ≡ m.kept + kept_of m.copy_break (frames_of more) → (j : ℕ) → b.delivered ≡ m.delivered + j → SoFar a b (n + j)
so_far_rests a m b n s r more e o kept j c = record {
  on = goes_both a m b s.on r.on;
  rung = ap (sent Driver) r.seen ∙ s.rung;
  taken = r.taken ∙ s.taken;
  looked = subst (λ (z : List Event). looks Driver a.driver.seen < looks Driver z) (sym r.seen) s.looked;
  known_all = subst (λ (z : List Event). known Driver z ≡ length (sent Device z)) (sym r.seen) s.known_all;
  next = (s.next.0 ++ more, e ∙ ap (λ (z : List Desc). z ++ more) s.next.1 ∙ append_assoc (settled a) s.next.0 more);
  ends = open_append 0 s.next.0 more ∙ ap (λ (z : ℕ). open_after z more) s.ends ∙ o;
  kept = kept_more;
  count = (let d = s.count in omega arith);
}
  where
    kept_more : b.kept ≡ a.kept + kept_of a.copy_break (frames_of (s.next.0 ++ more))
    kept_more = let f = ap (kept_of a.copy_break) (frames_both s.next.0 more s.ends) in let k = kept_append a.copy_break (frames_of s.next.0) (frames_of more) in let l = s.kept in
        let c = ap (λ (z : ℕ). kept_of z (frames_of more)) s.on.copy_break in omega arith

pub so_far_one : (a m b : FreeSees) (n j : ℕ) → SoFar a m n → TriesOne j m b → SoFar a b (n + j)
so_far_one a m b n j s t = so_far_rests a m b n s t.rests t.next.0 t.next.2 (whole_open 0 t.next.0 t.whole) (t.kept ∙ ap (λ (z : ℕ). m.kept + z) ((let g : kept_by m.copy_break t.next.0 ≡ kept_by m.copy_break t.next.0 + 0 = omega arith in g) ∙ ap (kept_of m.copy_break) (sym (frame_alone [] t.next.0 t.whole)))) j t.count

pub so_far_holds : (a m b : FreeSees) (n : ℕ) → SoFar a m n → Holds m b → SoFar a b n
so_far_holds a m b n s h = subst (SoFar a b) (let g : n + 0 ≡ n = omega arith in g) (so_far_rests a m b n s h.rests [] (h.still ∙ sym (append-nil (settled m))) refl (h.kept ∙ (let g : m.kept ≡ m.kept + 0 = omega arith in g)) 0 (h.count ∙ (let g : m.delivered ≡ m.delivered + 0 = omega arith in g)))

-- the call is done
pub so_far_done : (a b : FreeSees) (n budget : ℕ) → SoFar a b n → n ≤ budget → (n < budget → IsCaughtUp b ⊎ HasNoRoom b) → Delivers a budget n b
so_far_done a b n budget s few less = record { on = s.on; rung = s.rung; taken = s.taken; looked = s.looked; known_all = s.known_all; next = s.next; kept = s.kept; count = s.count; few = few; less = less }

-- a try to hold the next frame
pub held_by : (a : FreeSees) (k : IsFreeList a) (taken : Bool) (frame : List Desc) (e : DriverSees) → a.held ≡ [] → e ≡ record (a.driver) { back = a.driver.back + length frame } → IsDriver e
    → OnTrue taken (IsWholeFrame frame × (take e.back (sent Device a.driver.seen) ≡ take a.driver.back (sent Device a.driver.seen) ++ frame))
    → OnFalse taken ((frame ≡ []) × (a.driver.back ≡ length (sent Device a.driver.seen)))
    → IsFreeList (free_list_of a.ring a.pool a.copy_break e a.pass a.kept frame a.host a.delivered a.copied)
    × OnTrue taken (Holds a (free_list_of a.ring a.pool a.copy_break e a.pass a.kept frame a.host a.delivered a.copied) × IsWholeFrame frame)
    × OnFalse taken (Holds a (free_list_of a.ring a.pool a.copy_break e a.pass a.kept frame a.host a.delivered a.copied) × IsCaughtUp (free_list_of a.ring a.pool a.copy_break e a.pass a.kept frame a.host a.delivered a.copied))
held_by a k true frame e none same lawful t f = (hold_list a k none frame e same lawful t.1 (is_held frame t.0), (hold_does a k none frame e same lawful t.1 (is_held frame t.0), t.0), tt)
  where
    is_held : (ds : List Desc) → IsWholeFrame ds → IsHeld ds
    is_held [] w = tt
    is_held (d ∷ ds) w = w
held_by a k false frame e none same lawful t f =
    let back : e.back ≡ a.driver.back = ap (λ (z : DriverSees). z.back) same ∙ (let l = ap length f.0 in let g : a.driver.back + length frame ≡ a.driver.back = omega arith in g) in
    let held : take e.back (sent Device a.driver.seen) ≡ take a.driver.back (sent Device a.driver.seen) ++ frame = ap (λ (z : ℕ). take z (sent Device a.driver.seen)) back ∙ sym (append-nil (take a.driver.back (sent Device a.driver.seen))) ∙ ap (λ (z : List Desc). take a.driver.back (sent Device a.driver.seen) ++ z) (sym f.0) in
    let whole : IsHeld frame = subst IsHeld (sym f.0) tt in
    (hold_list a k none frame e same lawful held whole, tt, (hold_does a k none frame e same lawful held whole, (f.0, back ∙ f.1 ∙ ap (λ (z : DriverSees). length (sent Device z.seen)) (sym same))))

-- where none is held, what was reclaimed ends with a frame
pub start_open : (a : FreeSees) → IsFreeList a → a.held ≡ [] → open_after 0 (take a.driver.back (sent Device a.driver.seen)) ≡ 0
start_open a k none = ap (open_after 0) (k.held ∙ ap (λ (z : List Desc). settled a ++ z) none ∙ append-nil (settled a)) ∙ k.ends

-- there is room for all that is returned
pub frame_room : (a : FreeSees) → IsFreeList a → length (sent Device a.driver.seen) ≤ a.driver.back + a.ring.slots
frame_room a k = let f = k.few in let o = k.lawful.lawful.order a.driver.seen ([], append-nil a.driver.seen) in let x = o.done in let y = o.heard in omega arith
