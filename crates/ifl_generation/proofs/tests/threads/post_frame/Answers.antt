use Rattle.std.proofs.Common.{◌∷◌, [], length, ap, ◌∙◌, arith}
use Rattle.std.proofs.lemmas.List.{length-append}
use Rattle.ifl_desc.specs.declared.desc.Desc.{Desc}
use Rattle.ifl_desc.specs.Ends.{DriverSees}
use Rattle.ifl_desc.proofs.Posting.{open_after-part, open_after-last, room_of-Posts, ring-Posts}
use Rattle.ifl_generation.proofs.tests.threads.post_frame.Goals as goal

pub loop-part-preserved : goal.loop-part-preserved
loop-part-preserved g c =
    let a : DriverSees = g.R.DescRing.driver_sees c.loop-part.driver in let b : DriverSees = g.R.DescRing.driver_sees c.post.new.end in
    let d : Desc = c.part_of.result in let h = c.post.ensures.list in let i = c.loop-part.invariant in (
      ring-Posts a d b h ∙ i.0,
      omega (arith, open_after-part a d b h c.part_of.ensures, i.1),
      omega (arith, room_of-Posts a d b h, i.2),
      omega (arith, ap length c.in-Some.ensures.items, length-append c.pop.new.self.items (c.in-Some.cluster ∷ []), i.3),
    )

pub flush-requires-clause-whole : goal.flush-requires-clause-whole
flush-requires-clause-whole g c =
    open_after-last (g.R.DescRing.driver_sees c.loop-part.driver) c.part_of-2.result (g.R.DescRing.driver_sees c.post-2.new.end) c.post-2.ensures.list c.part_of-2.ensures
