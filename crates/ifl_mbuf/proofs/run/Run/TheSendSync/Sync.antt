use denote.Param.Send.{IsSync}
use Rattle.ifl_mbuf.proofs.Crosses.{Run-sync}
use Rattle.ifl_mbuf.specs.contracts.run.Run.{the_row}

pub sync : IsSync the_row
sync = Run-sync
