use contract.BorrowLft.{⊑_static}
use Rattle.ifl_line.proofs.assembling.assemble.Goals as goal

pub drop-seat-inside-requires-lives-S-Destruct : goal.drop-seat-inside-requires-lives-S-Destruct
drop-seat-inside-requires-lives-S-Destruct g c κs within = λ a m. ⊑_static _ a (c.type_bounds.static-R a m)

pub drop-ring-inside-requires-lives-P-TableRule : goal.drop-ring-inside-requires-lives-P-TableRule
drop-ring-inside-requires-lives-P-TableRule g c κs within = λ a m. ⊑_static _ a (c.type_bounds.static-R a m)

pub drop-ring-inside-requires-lives-P-TableRule-2 : goal.drop-ring-inside-requires-lives-P-TableRule-2
drop-ring-inside-requires-lives-P-TableRule-2 g c κs within = λ a m. ⊑_static _ a (c.type_bounds.static-R a m)

pub drop-ring-inside-requires-lives-S-Destruct : goal.drop-ring-inside-requires-lives-S-Destruct
drop-ring-inside-requires-lives-S-Destruct g c κs within = λ a m. ⊑_static _ a (c.type_bounds.static-R a m)

pub drop-ring-inside-requires-lives-K-Destruct : goal.drop-ring-inside-requires-lives-K-Destruct
drop-ring-inside-requires-lives-K-Destruct g c κs within = λ a m. ⊑_static _ a (c.type_bounds.static-R a m)
