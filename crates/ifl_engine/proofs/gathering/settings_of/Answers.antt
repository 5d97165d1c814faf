use Rattle.std.proofs.Common.{ap}
use Rattle.std.specs.Prelude.{option_map}
use Rattle.ifl_engine.specs.Loaded.{bytes_of}
use Rattle.ifl_engine.proofs.Loading.{settings_in-standard, settings_in-set, settings_in-refused}
use Rattle.ifl_engine.proofs.gathering.settings_of.Goals as goal

pub returns-in-None-clause-read : goal.returns-in-None-clause-read
returns-in-None-clause-read c = settings_in-standard _ c.standard.result (ap (option_map bytes_of) c.in-None.is) c.standard.ensures

pub returns-in-Ok-clause-read : goal.returns-in-Ok-clause-read
returns-in-Ok-clause-read c =
    settings_in-set _ c.in-Some.bytes.items c.deref.result.now c.in-Ok.settings (ap (option_map bytes_of) c.in-Some.is) c.deref.ensures.value c.in-Ok.ensures.valid c.in-Ok.ensures.set

pub returns-in-Err-clause-read : goal.returns-in-Err-clause-read
returns-in-Err-clause-read c = (settings_in-refused _ c.in-Some.bytes.items c.deref.result.now c.in-Err.fault c.settings_stop.result (ap (option_map bytes_of) c.in-Some.is) c.deref.ensures.value c.in-Err.ensures.fault c.settings_stop.ensures).0

pub returns-in-Err-clause-no_fault : goal.returns-in-Err-clause-no_fault
returns-in-Err-clause-no_fault c = (settings_in-refused _ c.in-Some.bytes.items c.deref.result.now c.in-Err.fault c.settings_stop.result (ap (option_map bytes_of) c.in-Some.is) c.deref.ensures.value c.in-Err.ensures.fault c.settings_stop.ensures).1
