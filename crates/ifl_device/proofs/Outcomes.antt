-- What became of lists of frames.
use Rattle.std.proofs.Common.{◌≡◌, ℕ, ◌+◌, ◌<◌, ◌≤◌, ◌⊎◌, inl, inr, Bool, true, false, cond, Some, List, [], ◌∷◌, ◌++◌, length, map, drop, get_or, sym, refl, ap, ◌∙◌, subst, arith, length-append}
use Rattle.ifl_desc.specs.declared.desc.Status.{Status}
use Rattle.ifl_desc.specs.declared.desc.Status.TheVariants.{Posted, Emitted, Aborted, Flushed, Filled, Unused}
use Rattle.ifl_desc.specs.declared.desc.Desc.{Desc}
use Rattle.ifl_desc.specs.declared.port.PortState.{PortState}
use Rattle.ifl_desc.specs.declared.port.PortState.TheVariants.{Flush}
use Rattle.ifl_desc.specs.Frames.{IsSettled, IsWholeFrame}
use Rattle.ifl_device.specs.declared.plan.EnginePlan.{EnginePlan}
use Rattle.ifl_device.specs.Adapter.{status_of, as_posted, returned_as, is_emitted, emitted_among, on_wire, IsOutcome, IsReturned, AreReturned}
use Rattle.ifl_device.specs.Outcomes.{is_aborted, one_if, emitted_in, aborted_in, MayEnd, KeepsPlan}

cond_none : (b : Bool) → cond {A = List (List Desc)} b [] [] ≡ []
cond_none true = refl
cond_none false = refl

-- nothing got this status, so nothing is on the wire
pub on_wire_none : (s : Status) → on_wire {X = List Desc} s [] ≡ []
on_wire_none s = cond_none (is_emitted s)

pub settled : (s : Status) → IsOutcome s → IsSettled s
settled Posted o = o
settled Emitted o = tt
settled Aborted o = tt
settled Flushed o = tt
settled Filled o = tt
settled Unused o = tt

emitted_among_append : (xs ys : List (List Desc)) → emitted_among (xs ++ ys) ≡ emitted_among xs ++ emitted_among ys
emitted_among_append [] ys = refl
emitted_among_append (f ∷ xs) ys = by_case (is_emitted (status_of f)) (emitted_among_append xs ys)
  where
    by_case : (b : Bool) → emitted_among (xs ++ ys) ≡ emitted_among xs ++ emitted_among ys
        → cond b (f ∷ emitted_among (xs ++ ys)) (emitted_among (xs ++ ys)) ≡ cond b (f ∷ emitted_among xs) (emitted_among xs) ++ emitted_among ys
    by_case true e = ap (λ (z : List (List Desc)). f ∷ z) e
    by_case false e = e

-- one more frame, with this status
pub among_more : (xs : List (List Desc)) (f : List Desc) (s : Status) → status_of f ≡ s → emitted_among (xs ++ f ∷ []) ≡ emitted_among xs ++ on_wire s (f ∷ [])
among_more xs f s e = emitted_among_append xs (f ∷ []) ∙ ap (λ (z : Status). emitted_among xs ++ on_wire z (f ∷ [])) e

pub emitted_more : (ss : List Status) (s : Status) → emitted_in (ss ++ s ∷ []) ≡ emitted_in ss + one_if (is_emitted s)
emitted_more [] s = omega arith
emitted_more (x ∷ ss) s = let i = emitted_more ss s in omega arith

pub aborted_more : (ss : List Status) (s : Status) → aborted_in (ss ++ s ∷ []) ≡ aborted_in ss + one_if (is_aborted s)
aborted_more [] s = omega arith
aborted_more (x ∷ ss) s = let i = aborted_more ss s in omega arith

-- as many are emitted as there are frames with this status
pub emitted_count : (fs : List (List Desc)) → emitted_in (map status_of fs) ≡ length (emitted_among fs)
emitted_count [] = refl
emitted_count (f ∷ fs) = by_case (is_emitted (status_of f)) (emitted_count fs)
  where
    by_case : (b : Bool) → emitted_in (map status_of fs) ≡ length (emitted_among fs) → one_if b + emitted_in (map status_of fs) ≡ length (cond b (f ∷ emitted_among fs) (emitted_among fs))
    by_case true e = omega arith
    by_case false e = omega arith

pub wire_count : (s : Status) (f : List Desc) → length (on_wire s (f ∷ [])) ≡ one_if (is_emitted s)
wire_count s f = by_case (is_emitted s)
  where
    by_case : (b : Bool) → length (cond b (f ∷ []) []) ≡ one_if b
    by_case true = refl
    by_case false = refl

pub status_returned : (s : Status) (ds : List Desc) → IsWholeFrame ds → status_of (map (returned_as s) ds) ≡ s
status_returned s [] w = absurd w
status_returned s (d ∷ ds) w = refl

pub again_returned : (s : Status) (ds : List Desc) → map (returned_as s) (map (returned_as s) ds) ≡ map (returned_as s) ds
again_returned s [] = refl
again_returned s (d ∷ ds) = ap (λ (z : List Desc). returned_as s d ∷ z) (again_returned s ds)

pub is_returned : (s : Status) (ds : List Desc) → IsWholeFrame ds → IsOutcome s → IsReturned (map (returned_as s) ds)
is_returned s ds w o = subst (λ (z : Status). IsOutcome z × (map (returned_as z) (map (returned_as s) ds) ≡ map (returned_as s) ds)) (sym (status_returned s ds w)) (o, again_returned s ds)

pub are_returned : (fs : List (List Desc)) (f : List Desc) → AreReturned fs → IsReturned f → AreReturned (fs ++ f ∷ [])
are_returned [] f a r = (r, tt)
are_returned (x ∷ fs) f a r = (a.0, are_returned fs f a.1 r)

pub posted_again : (s : Status) (ds : List Desc) → map as_posted (map (returned_as s) ds) ≡ map as_posted ds
posted_again s [] = refl
posted_again s (d ∷ ds) = ap (λ (z : List Desc). as_posted d ∷ z) (posted_again s ds)

-- where the last of a list is one more, it stands last, or before the last
split_last : (xs : List Status) (s : Status) (before after : List Status) (t : Status) → xs ++ s ∷ [] ≡ before ++ t ∷ after → ((before ≡ xs) × (t ≡ s)) ⊎ ((more : List Status) × (xs ≡ before ++ t ∷ more))
split_last [] s [] after t e = inl (refl, ap (λ (z : List Status). get_or z 0 s) (sym e))
split_last [] s (b ∷ before) after t e = let l = ap length e in let m = length-append before (t ∷ after) in absurd (omega arith)
split_last (x ∷ xs) s [] after t e = inr (xs, ap (λ (z : Status). z ∷ xs) (ap (λ (z : List Status). get_or z 0 s) e))
split_last (x ∷ xs) s (b ∷ before) after t e = on (split_last xs s before after t (ap (drop 1) e))
  where
    head : x ≡ b
    head = ap (λ (z : List Status). get_or z 0 s) e

    on : ((before ≡ xs) × (t ≡ s)) ⊎ ((more : List Status) × (xs ≡ before ++ t ∷ more)) → ((b ∷ before ≡ x ∷ xs) × (t ≡ s)) ⊎ ((more : List Status) × (x ∷ xs ≡ b ∷ (before ++ t ∷ more)))
    on (inl p) = inl ((λ i. sym head i ∷ p.0 i), p.1)
    on (inr p) = inr (p.0, (λ i. head i ∷ p.1 i))

-- what the plan asks before one more frame is returned so
pub record Follows (plan : EnginePlan) (size : ℕ) (ss : List Status) (port : PortState) (s : Status) : Type 0 where
  pub ends : MayEnd plan (emitted_in ss) s
  pub few : aborted_in ss + one_if (is_aborted s) < size
  pub within : (n : ℕ) → plan.flush_after ≡ Some n → emitted_in ss + one_if (is_emitted s) ≤ n
  pub stopped : port ≡ Flush → is_emitted s ≡ false

-- one more frame is returned as planned
pub plan_more : (plan : EnginePlan) (size : ℕ) (ss : List Status) (port : PortState) (s : Status) → KeepsPlan plan size ss port → Follows plan size ss port s → KeepsPlan plan size (ss ++ s ∷ []) port
plan_more plan size ss port s k f = record {
  ends = λ before after t e. on before t (split_last ss s before after t e);
  few = (let a = aborted_more ss s in let g = f.few in omega arith);
  within = λ n e. (let a = emitted_more ss s in let g = f.within n e in omega arith);
  stopped = λ e. k.stopped e ∙ ap Some (sym (emitted_more ss s ∙ ap (λ (z : Bool). emitted_in ss + one_if z) (f.stopped e) ∙ (let g : emitted_in ss + 0 ≡ emitted_in ss = omega arith in g)));
}
  where
    on : (before : List Status) (t : Status) → ((before ≡ ss) × (t ≡ s)) ⊎ ((more : List Status) × (ss ≡ before ++ t ∷ more)) → MayEnd plan (emitted_in before) t
    on before t (inl p) = subst (λ (z : List Status × Status). MayEnd plan (emitted_in z.0) z.1) (λ i. (sym p.0 i, sym p.1 i)) f.ends
    on before t (inr p) = k.ends before p.0 t p.1
