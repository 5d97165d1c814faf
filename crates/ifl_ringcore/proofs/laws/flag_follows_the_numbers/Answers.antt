use Rattle.std.proofs.Common.{◌≤◌, ◌+◌, arith}
use Rattle.ifl_ringcore.proofs.Flags.{flag_set}
use Rattle.ifl_ringcore.proofs.Reservations.{cover_le}
use Rattle.ifl_ringcore.proofs.laws.flag_follows_the_numbers.Goals as goal

pub returns : goal.returns
returns c = λ size n st over g some. let b : st.published ≤ st.reserved = cover_le st.published st.reservations st.reserved g.covered in let w : st.reserved + 2 ≤ st.released + size = g.within in
    flag_set size (record st { released = st.released + n }) over some b (omega arith)
