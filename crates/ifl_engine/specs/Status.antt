-- The status of each stop.
use Rattle.std.specs.Prelude.{ℕ}
use Rattle.ifl_engine.specs.declared.stop.Stop.{Stop}
use Rattle.ifl_engine.specs.declared.stop.Stop.TheVariants as stop

abbrev pub status_of : Stop → ℕ
status_of (stop.Words why) = 1
status_of stop.TooManyFiles = 7
status_of (stop.ReadFailed which) = 5
status_of (stop.Absent which) = 4
status_of (stop.TooLong which) = 7
status_of stop.TooManyBytes = 7
status_of (stop.Settings why) = 2
status_of (stop.Capture file at why) = 3
status_of stop.TooManyFrames = 7
status_of stop.WireFailed = 5
status_of stop.OrderFailed = 5
status_of stop.PrintFailed = 5
status_of stop.Memory = 6
