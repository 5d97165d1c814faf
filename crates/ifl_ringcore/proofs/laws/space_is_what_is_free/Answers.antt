use Rattle.std.proofs.Common.{◌≤◌, arith}
use Rattle.ifl_ringcore.proofs.Residues.{space-ring_word}
use Rattle.ifl_ringcore.proofs.Reservations.{cover_le}
use Rattle.ifl_ringcore.proofs.laws.space_is_what_is_free.Goals as goal

pub returns : goal.returns
returns c = λ size st four g. let is = space-ring_word size st (omega arith) g in
    let a : st.released ≤ st.published = g.released in let b : st.published ≤ st.reserved = cover_le st.published st.reservations st.reserved g.covered in omega arith
