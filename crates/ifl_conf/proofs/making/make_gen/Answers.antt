use Rattle.std.proofs.Common.{map}
use Rattle.ifl_conf.specs.GivenOption.{given}
use Rattle.ifl_conf.proofs.Unpacked.{number_parts}
use Rattle.ifl_conf.proofs.making.make_gen.Goals as goal

pub required_number-senders-requires-clause-within : goal.required_number-senders-requires-clause-within
required_number-senders-requires-clause-within c = (number_parts (map given c.args.options.now) c.requires.numbers).0

pub required_number-frames-requires-clause-within : goal.required_number-frames-requires-clause-within
required_number-frames-requires-clause-within c = (number_parts (map given c.args.options.now) c.requires.numbers).1
