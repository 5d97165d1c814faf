use Rattle.ifl_legacy.proofs.Statuses.{statuses_frame}
use Rattle.ifl_legacy.proofs.laws.a_frame_shows_its_number_of_entries.Goals as goal

pub returns : goal.returns
returns c = statuses_frame
