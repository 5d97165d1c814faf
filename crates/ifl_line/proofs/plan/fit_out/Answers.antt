use Rattle.std.proofs.Common.{length, ap, arith}
use Rattle.std.proofs.lemmas.List.{length-map}
use Rattle.ifl_line.specs.Works.{files_of}
use Rattle.ifl_line.proofs.Listing.{length-files_of}
use Rattle.ifl_line.proofs.plan.fit_out.Goals as goal

pub new-requires-clause-few : goal.new-requires-clause-few
new-requires-clause-few g c = let few = c.requires.few.0 in let a = ap length c.in_ok-counts.ensures in let b = length-map (files_of c.args.captures.now) length in let d = length-files_of c.args.captures.now in let v = ap length c.deref.ensures.value in
    omega arith
