-- How a settings file writes each choice.
use Rattle.std.specs.Prelude.{ℕ, List, codes}
use Rattle.ifl_conf.specs.declared.choices.AdapterKind.{AdapterKind}
use Rattle.ifl_conf.specs.declared.choices.AdapterKind.TheVariants.{Legacy, Writeback, Generation}
use Rattle.ifl_conf.specs.declared.choices.Start.{Start}
use Rattle.ifl_conf.specs.declared.choices.Start.TheVariants.{AtOnce, AfterSenders}
use Rattle.ifl_conf.specs.declared.choices.Policy.{Policy}
use Rattle.ifl_conf.specs.declared.choices.Policy.TheVariants.{Retry, Drop}
use Rattle.ifl_conf.specs.declared.choices.StopMode.{StopMode}
use Rattle.ifl_conf.specs.declared.choices.StopMode.TheVariants.{Drain, Flush}

-- how a settings file writes the kind of adapter
abbrev pub kind_text : AdapterKind → List ℕ
kind_text Legacy = codes "legacy"
kind_text Writeback = codes "writeback"
kind_text Generation = codes "generation"

-- how it writes the start
abbrev pub start_text : Start → List ℕ
start_text AtOnce = codes "at_once"
start_text AfterSenders = codes "after_senders"

-- how it writes the policy
abbrev pub policy_text : Policy → List ℕ
policy_text Retry = codes "retry"
policy_text Drop = codes "drop"

-- how it writes the mode of the stop
abbrev pub mode_text : StopMode → List ℕ
mode_text Drain = codes "drain"
mode_text Flush = codes "flush"
