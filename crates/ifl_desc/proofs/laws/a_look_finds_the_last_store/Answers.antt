use Rattle.ifl_desc.specs.declared.port.PortState.TheVariants.{Up}
use Rattle.ifl_desc.proofs.PortSteps.{looked_last}
use Rattle.ifl_desc.proofs.laws.a_look_finds_the_last_store.Goals as goal

pub returns : goal.returns
returns c = λ before after s h. looked_last Up s before after h.1
