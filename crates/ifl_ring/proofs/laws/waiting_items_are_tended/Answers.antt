use Rattle.std.proofs.Common.{◌≡◌, ◌⊎◌, inl, inr, refl, ⊎_elim, arith}
use Rattle.ifl_base.specs.declared.word.Flag.{Flag}
use Rattle.ifl_base.specs.declared.word.Flag.TheVariants.{Idle, Busy, Stalled, Abdicated}
use Rattle.ifl_ringcore.proofs.Queueing.{busy-consumer}
use Rattle.ifl_ring.proofs.laws.waiting_items_are_tended.Goals as goal

flag-cases : (f : Flag) → (f ≡ Idle) ⊎ ((f ≡ Busy) ⊎ ((f ≡ Stalled) ⊎ (f ≡ Abdicated)))
flag-cases Idle = inl refl
flag-cases Busy = inr (inl refl)
flag-cases Stalled = inr (inr (inl refl))
flag-cases Abdicated = inr (inr (inr refl))

pub returns : goal.returns
returns c = λ size st g waits. ⊎_elim
    (λ (idle : st.flag ≡ Idle). let none : st.released ≡ st.published = g.idle idle in absurd (omega arith))
    (λ others. ⊎_elim (λ (busy : st.flag ≡ Busy). inl ((busy-consumer st st.consumer g.tended).0 busy)) (λ left. inr left) others)
    (flag-cases st.flag)
