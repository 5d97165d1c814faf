-- A queue after a step on some of its parts.
use Rattle.std.proofs.Common.{◌≡◌, ℕ, cond, Some, refl, ap, ◌∙◌}
use Rattle.ifl_base.specs.declared.ticket.Ticket.{Ticket}
use Rattle.ifl_desc.specs.declared.desc.Desc.{Desc}
use Rattle.ifl_desc.specs.Ends.{DriverSees}
use Rattle.ifl_desc.specs.Calls.{Reclaims}
use Rattle.ifl_pool.specs.Pools.{PassState}
use Rattle.ifl_base.specs.declared.fate.Fate.{Fate}
use Rattle.ifl_txq.specs.Frames.{fate_of}
use Rattle.ifl_txq.specs.Log.{FitsIn, LogSees, after_note, after_settle}
use Rattle.ifl_txq.specs.Queue.{QueueSees}
use Rattle.ifl_txq.specs.Calls.{Gave}
use Rattle.ifl_txq.specs.Steps.{WroteDown, WroteOff, TakesBack}

module _ (a : QueueSees) where
  pub wrote_down : (t : Ticket) (n : ℕ) (pass : PassState) (log : LogSees) → FitsIn t → Gave n a.pass pass → log ≡ after_note t a.log → WroteDown t n a (record a { pass = pass; log = log })
  wrote_down t n pass log fits gave e = (fits, gave, λ i. record a { pass = pass; log = e i })

  pub wrote_off : (t : Ticket) (f : Fate) (n : ℕ) (pass : PassState) (mid log : LogSees) → FitsIn t → Gave n a.pass pass → mid ≡ after_note t a.log → log ≡ after_settle t f mid → WroteOff t f n a (record a { pass = pass; log = log })
  wrote_off t f n pass mid log fits gave e h = (fits, gave, λ i. record a { pass = pass; log = (h ∙ ap (after_settle t f) e) i })

  pub takes_back : (d : Desc) (driver : DriverSees) (pass : PassState) (log : LogSees) → Reclaims a.driver (Some d) driver → Gave 1 a.pass pass → log ≡ cond d.last (after_settle d.ticket (fate_of d.status) a.log) a.log
      → TakesBack a (Some d.last) (record a { driver = driver; pass = pass; log = log })
  takes_back d driver pass log r gave e = (d, refl, r, gave, λ i. record a { driver = driver; pass = pass; log = e i })
