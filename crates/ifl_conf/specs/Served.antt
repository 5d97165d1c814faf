-- What the words may say and the program does not do yet. It is refused until then.
use Rattle.std.specs.Prelude.{Bool, true, false, not, List}
use Rattle.ifl_conf.specs.declared.words.CommandName.{CommandName}
use Rattle.ifl_conf.specs.declared.words.CommandName.TheVariants.{Send, Trace}
use Rattle.ifl_conf.specs.declared.words.OptionName.TheVariants.{Input}
use Rattle.ifl_conf.specs.Front.{Given}
use Rattle.ifl_conf.specs.Grammar.{is_given}

-- the program does what a command asks for with these options
unfoldable pub is_form_served : CommandName → List Given → Bool
is_form_served Send gs = not (is_given Input gs)
is_form_served Trace gs = true
is_form_served _ gs = false
