use Rattle.std.proofs.Common.{◌+◌, ◌∙◌, arith}
use Rattle.ifl_legacy.proofs.Ties.{tie_same}
use Rattle.ifl_legacy.proofs.WordSteps.{opens}
use Rattle.ifl_legacy.proofs.ring.LegacyRingDescRing.make.Goals as goal

pub vacant-requires : goal.vacant-requires
vacant-requires c = opens c.args.size (1 + c.args.size) c.deref.result.now (omega arith) (omega arith) (c.deref.ensures.value ∙ c.in-Ok-vec.ensures.items_if_clones_equal (λ y h. h))

pub new_ends-driver-requires-clause-stays : goal.new_ends-driver-requires-clause-stays
new_ends-driver-requires-clause-stays c = tie_same _
