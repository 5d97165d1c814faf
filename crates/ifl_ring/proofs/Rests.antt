-- What a seat knows of its part in the ring after a step of its own.
use Rattle.std.proofs.Common.{◌≡◌, ℕ, ◌+◌, ◌-◌, List, [], ◌∷◌, ◌++◌, sym, ap, ◌∙◌, subst, arith, ◌<◌, ◌≤◌, ◌*◌, ◌^◌, mod-lt}
use Rattle.ifl_base.specs.declared.word.Flag.{Flag}
use Rattle.ifl_base.specs.declared.word.Flag.TheVariants.{Idle, Busy, Stalled, Abdicated}
use Rattle.ifl_base.specs.declared.word.RingWord.{RingWord}
use Rattle.ifl_base.specs.Word.{IsWithin}
use Rattle.ifl_ring.specs.Words.{IsWordOf}
use Rattle.ifl_ringcore.proofs.Residues.{pack-same}
use Rattle.ifl_ring.proofs.Reserving.{word_is}
use Rattle.ifl_ringcore.specs.declared.history.Step.TheVariants.{Look}
use Rattle.ifl_ringcore.specs.declared.history.Entry.{Entry}
use Rattle.ifl_ring.specs.declared.view.Known.{Known}
use Rattle.ifl_ringcore.specs.State.{role_of, free, first_state, ring_word}
use Rattle.ifl_ringcore.specs.History.{state_after}
use Rattle.ifl_ringcore.specs.Effects.{effect}
use Rattle.ifl_base.specs.Word.{pack, number_of}
use Rattle.ifl_ring.specs.Seats.{Has, entry, Made, Sees}
use Rattle.ifl_ring.specs.Law.{IsAtRest}
use Rattle.ifl_ring.specs.Tells.{SeesWord}
use Rattle.ifl_ringcore.proofs.Histories.{state_after-append}

small_flag : (f : Flag) → number_of f < 4
small_flag Idle = omega arith
small_flag Busy = omega arith
small_flag Stalled = omega arith
small_flag Abdicated = omega arith

pub rests : (size : ℕ) (v : Known) (e : Entry) (w : Known) → Has v.number v.stands → (m : Made size v e w)
    → role_of v.number (effect (state_after first_state (v.seen ++ m.between)) e.seat e.event) ≡ free → IsAtRest w
rests size v e w has m role = subst IsAtRest (sym m.is) (let all : List Entry = (v.seen ++ m.between) ++ e ∷ [] in record {
  named = has;
  role = ap (role_of v.number) (state_after-append first_state (v.seen ++ m.between) e) ∙ role;
})

pub rests_after_look : (size : ℕ) (v : Known) (n : ℕ) (w : Known) → IsAtRest v → SeesWord size v n w → IsAtRest w
rests_after_look size v n w r t = rests size v _ w r.named t.0 (t.0.role ∙ r.role)

pub slots_size : (slots size : ℕ) → slots ≡ size + 1 → slots - 1 ≡ size
slots_size slots size e = omega arith

pub small_word : (size : ℕ) (n : ℕ) → 0 < size → size ≤ 65536 → IsWordOf size n → n < 4 * 2 ^ 48
unfolding pack
small_word size n pos small t = let st = t.0 in let a = mod-lt st.reserved pos in let b = mod-lt st.published pos in let c = mod-lt st.released pos in let f = small_flag st.flag in let e = t.1 in omega arith

pub word_within : (size : ℕ) (n : ℕ) (w : RingWord) → 0 < size → size ≤ 65536 → w.head < 65536 → w.tail < 65536 → w.cidx < 65536 → pack w ≡ n → IsWordOf size n → IsWithin size w
word_within size n w pos small x y z is t = let st = t.0 in let a = mod-lt st.reserved pos in let b = mod-lt st.published pos in let c = mod-lt st.released pos in
    let s = pack-same (ring_word size st) w (omega arith) x (omega arith) y (omega arith) z (sym t.1 ∙ sym is) in let p = s.0 in let q = s.1 in let r = s.2 in (omega arith, omega arith, omega arith)

pub looked_word : (size : ℕ) (v w : Known) (n : ℕ) (word : RingWord) → 0 < size → size ≤ 65536 → IsWithin size word → pack word ≡ n → SeesWord size v n w → Sees size v word w
looked_word size v w n word pos small within is t = (subst (λ (z : ℕ). Made size v (entry v.number z Look) w) (sym is) t.0, sym (word_is size (state_after first_state w.seen) word pos small within (sym t.1 ∙ sym is)))
