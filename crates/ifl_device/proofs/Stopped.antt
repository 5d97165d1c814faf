-- What a turn does after flush has begun.
use Rattle.std.proofs.Common.{◌≡◌, ℕ, inl, inr, ap, ◌∙◌, arith, List}
use Rattle.ifl_desc.specs.declared.desc.Desc.{Desc}
use Rattle.ifl_desc.specs.declared.desc.Status.TheVariants as status
use Rattle.ifl_desc.specs.Port.{state_of}
use Rattle.ifl_device.specs.declared.plan.Turn.{Turn}
use Rattle.ifl_device.specs.declared.plan.Turn.TheVariants as turn
use Rattle.ifl_device.specs.Engine.{EngineSees, IsStopped, Returns}
use Rattle.ifl_device.specs.Turns.{Turned, stopped, flushed_after}

-- the flush of a stopped engine changes nothing
stopped_again : (e : EngineSees) → IsStopped e → stopped e ≡ e
stopped_again e s = λ i. record e { writer = record (e.writer) { known = flushed_after (s i) e.writer.known } }

returned_flushed : (a b : EngineSees) → IsStopped a → (frames : List (List Desc)) → Returns status.Flushed frames (stopped a) b → (b.emitted ≡ a.emitted) × IsStopped b
returned_flushed a b s frames r = (
  (let c = r.count in omega arith),
  ap (λ z. state_of z.known) r.writer ∙ ap (λ (z : EngineSees). state_of z.writer.known) (stopped_again a s) ∙ s,
)

pub turned_stopped : (a b : EngineSees) (n : ℕ) (t : Turn) → IsStopped a → Turned a n t b → (b.emitted ≡ a.emitted) × IsStopped b
turned_stopped a b n (turn.Moved k) s x = absurd (x.0.0 (inl s))
turned_stopped a b n (turn.Flushed k) s x = returned_flushed a b s x.2.0.0.0 x.2.0.0.2
turned_stopped a b n (turn.Idle doorbell) s (f, inl x) = returned_flushed a b s x.1.0.0 x.1.0.2
turned_stopped a b n (turn.Idle doorbell) s (f, inr x) = absurd (x.0.0 (inl s))
turned_stopped a b n (turn.Down left) s x = absurd (x.0.0 (inl s))
turned_stopped a b n (turn.Hung emitted) s x = absurd (x.0.0 (inl s))
turned_stopped a b n (turn.WireFull need room) s x = absurd (x.0.0 (inl s))
