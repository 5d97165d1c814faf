use denote.Param.Send.{IsSend}
use Rattle.ifl_mbuf.proofs.Crosses.{Run-send}
use Rattle.ifl_mbuf.specs.contracts.run.Run.{the_row}

pub send : IsSend the_row
send = Run-send
