use Rattle.std.proofs.Math.Nat.{mod-add-mod}
use Rattle.ifl_ringcore.proofs.laws.places_follow_the_numbers.Goals as goal

pub returns-clause-head : goal.returns-clause-head
returns-clause-head c = λ size n st. mod-add-mod st.reserved size n

pub returns-clause-tail : goal.returns-clause-tail
returns-clause-tail c = λ size n st. mod-add-mod st.published size n

pub returns-clause-cidx : goal.returns-clause-cidx
returns-clause-cidx c = λ size n st. mod-add-mod st.released size n
