-- A chain that is being posted, and how far compaction gets.
use Rattle.std.proofs.Common.{◌≡◌, ℕ, suc, ◌+◌, ◌*◌, ◌<◌, ◌≤◌, Bool, false, cond, eqb, List, [], ◌∷◌, ◌++◌, length, sym, refl, ap, ◌∙◌, subst, arith, append-nil, append_assoc, length-append}
use Rattle.std.specs.Prelude.{IsPermutation}
use Rattle.std.proofs.lemmas.Bool.Decides.{nat_tests}
use Rattle.std.specs.Int.{div_ceil}
use Rattle.std.proofs.lemmas.List.{length-map}
use Rattle.std.proofs.lemmas.List.Sorted.{length_permutation, IsPermutation-append_comm, IsPermutation-append_right, IsPermutation-trans}
use Rattle.ifl_base.specs.declared.ticket.Ticket.{Ticket}
use Rattle.ifl_base.specs.declared.ticket.Stamp.{Stamp}
use Rattle.ifl_mbuf.specs.Segment.{Segment, AreFilled, bytes_of, numbers_of, size}
use Rattle.ifl_desc.specs.declared.desc.Desc.{Desc}
use Rattle.ifl_desc.specs.declared.desc.Status.TheVariants as status
use Rattle.ifl_desc.specs.Frames.{open_after}
use Rattle.ifl_desc.specs.Ends.{DriverSees, IsDriver, posted, room_of}
use Rattle.ifl_desc.specs.Calls.{Posts}
use Rattle.ifl_txq.specs.Encap.{IsPlan, is_last}
use Rattle.ifl_desc.proofs.Framing.{open_append}

-- what was posted of a chain so far, and what is left of it
pub record Posting (a b : DriverSees) (t : Ticket) (s : Stamp) (all left : List Segment) (count : ℕ) : Type 0 where
  pub done : List Desc
  pub driver : b ≡ record a { pending = a.pending ++ done }
  pub plan : (ds : List Desc) → IsPlan t s left ds → IsPlan t s all (done ++ ds)
  pub count_is : count ≡ length done
  pub total : length done + length left ≡ length all
  pub unmarked : 0 < length left → open_after 0 done ≡ length done
  pub lawful : IsDriver b

pub posting_new : (a : DriverSees) (t : Ticket) (s : Stamp) (all : List Segment) → IsDriver a → Posting a a t s all all 0
posting_new a t s all k = record {
  done = [];
  driver = λ i. record a { pending = sym (append-nil a.pending) i };
  plan = λ ds p. p;
  count_is = refl;
  total = omega arith;
  unmarked = λ _. refl;
  lawful = k;
}

module _ (a b : DriverSees) (t : Ticket) (s : Stamp) (all left : List Segment) (count : ℕ) (p : Posting a b t s all left count) where
  posting_count : posted b ≡ posted a + length p.done
  posting_count = let x = ap posted p.driver in let l = length-append a.pending p.done in omega arith

  -- there is room for one more
  pub posting_room : length all ≤ room_of a → 0 < length left → 0 < room_of b
  posting_room room some = let c = posting_count in let t = p.total in let x = ap (λ (z : DriverSees). z.ring.slots) p.driver in let y = ap (λ (z : DriverSees). z.back) p.driver in omega arith

  -- the frame is short of 64
  pub posting_short : open_after 0 a.pending ≡ 0 → length all ≤ 64 → 0 < length left → open_after 0 b.pending < 64
  posting_short whole few some =
      let e : open_after 0 b.pending ≡ length p.done = ap (λ (z : DriverSees). open_after 0 z.pending) p.driver ∙ open_append 0 a.pending p.done ∙ ap (λ (z : ℕ). open_after z p.done) whole ∙ p.unmarked some in
      let t = p.total in omega arith

  -- one more is posted
  pub posting_more : (g : Segment) (rest : List Segment) (last : Bool) (fits : length g.bytes ≤ 2048) (c : DriverSees) → left ≡ g ∷ rest → last ≡ is_last rest
      → Posts b (record { seg = g; ticket = t; stamp = s; last = last; status = status.Posted; fits = fits }) c → IsDriver c → Posting a c t s all rest (count + 1)
  posting_more g rest last fits c is ends posts lawful = let d : Desc = record { seg = g; ticket = t; stamp = s; last = last; status = status.Posted; fits = fits } in let n = length-append p.done (d ∷ []) in let x = p.count_is in let l = ap length is in let y = p.total in record {
    done = p.done ++ d ∷ [];
    driver = posts ∙ (λ i. record (p.driver i) { pending = ((ap (λ (z : DriverSees). z.pending ++ d ∷ []) p.driver) ∙ append_assoc a.pending p.done (d ∷ [])) i });
    plan = λ ds q. subst (IsPlan t s all) (sym (append_assoc p.done (d ∷ []) ds)) (p.plan (d ∷ ds) (subst (λ (z : List Segment). IsPlan t s z (d ∷ ds)) (sym is) (refl, refl, refl, refl, ends, q)));
    count_is = omega arith;
    total = omega arith;
    unmarked = λ pos. open_append 0 p.done (d ∷ []) ∙ ap (λ (z : ℕ). open_after z (d ∷ [])) (p.unmarked (omega arith)) ∙ ap (λ (z : Bool). cond z 0 (suc (length p.done))) (ends ∙ more_left rest pos) ∙ sym (n ∙ (let e : length p.done + 1 ≡ suc (length p.done) = omega arith in e));
    lawful = lawful;
  }
    where
      more_left : (ss : List Segment) → 0 < length ss → is_last ss ≡ false
      more_left [] some = absurd (omega arith)
      more_left (x ∷ ss) some = refl

  -- all of it is posted
  pub posting_done : left ≡ [] → (ds : List Desc) × (count ≡ length ds) × IsPlan t s all ds × (b ≡ record a { pending = a.pending ++ ds })
  posting_done none = (
    p.done,
    p.count_is,
    subst (IsPlan t s all) (append-nil p.done) (p.plan [] (subst (λ (z : List Segment). IsPlan t s z []) (sym none) tt)),
    p.driver,
  )

pub last_by_count : (ss : List Segment) → eqb (length ss) 0 ≡ is_last ss
last_by_count [] = refl
last_by_count (x ∷ ss) = grind (arith, nat_tests)

-- segments have at most 2,048 bytes each
pub filled_size : (ss : List Segment) → AreFilled ss → size ss ≤ 2048 * length ss
filled_size [] f = omega arith
filled_size (g ∷ ss) f = let r = filled_size ss f.1 in let l = length-append g.bytes (bytes_of ss) in let b = f.0.1 in omega arith

pub needs_no_more : (ss : List Segment) → AreFilled ss → div_ceil (size ss) 2048 ≤ length ss
needs_no_more ss f = let r = filled_size ss f in omega arith

-- what two compactions freed, and what is left
pub freed_twice : (one two now before all : List ℕ) → now ++ two ≡ before → IsPermutation (one ++ before) all → IsPermutation ((one ++ two) ++ now) all
freed_twice one two now before all e p =
    let q = IsPermutation-append_right one (two ++ now) (now ++ two) (IsPermutation-append_comm two now) in
    let r : IsPermutation ((one ++ two) ++ now) (one ++ before) = subst (λ (z : List ℕ × List ℕ). IsPermutation z.0 z.1) (λ i. (sym (append_assoc one two now) i, one ++ e i)) q in
    IsPermutation-trans ((one ++ two) ++ now) (one ++ before) all r p

pub freed_count : (freed : List ℕ) (ss all : List Segment) → IsPermutation (freed ++ numbers_of ss) (numbers_of all) → length freed + length ss ≡ length all
freed_count freed ss all p =
    let n = length_permutation (freed ++ numbers_of ss) (numbers_of all) p in let a = length-append freed (numbers_of ss) in
    let b : length (numbers_of ss) ≡ length ss = length-map ss (λ s. s.number) in let c : length (numbers_of all) ≡ length all = length-map all (λ s. s.number) in omega arith

pub more_segments : (max : ℕ) (ss before : List Segment) → AreFilled ss → bytes_of ss ≡ bytes_of before → max < div_ceil (size before) 2048 → max < length ss
more_segments max ss before f e h = let n = needs_no_more ss f in let s : div_ceil (size ss) 2048 ≡ div_ceil (size before) 2048 = ap (λ (z : List ℕ). div_ceil (length z) 2048) e in omega arith

pub rest_count : (two : List ℕ) (now before : List Segment) → numbers_of now ++ two ≡ numbers_of before → length two ≤ length before
rest_count two now before e = let l = ap length e in let a = length-append (numbers_of now) two in let c : length (numbers_of before) ≡ length before = length-map before (λ s. s.number) in omega arith

pub has_segments : (ss before : List Segment) → bytes_of ss ≡ bytes_of before → 0 < size before → 0 < length ss
has_segments [] before e pos = let l = ap length e in absurd (omega arith)
has_segments (s ∷ ss) before e pos = omega arith
