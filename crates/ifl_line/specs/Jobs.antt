-- A worker or a sender, before and after it runs.
use Rattle.std.specs.Prelude.{◌≡◌, ◌≤◌, List, []}
use Rattle.std.specs.VecDeque.{deque_capacity}
use Rattle.ifl_ringcore.specs.declared.history.Entry.{Entry}
use Rattle.ifl_line.specs.declared.jobs.Job.{Job}
use Rattle.ifl_line.specs.declared.jobs.Task.{Task}
use Rattle.ifl_line.specs.declared.jobs.Task.TheVariants.{Work, Send, Done}
use Rattle.ifl_line.specs.declared.line.Line.{Line}
use Rattle.ifl_line.specs.declared.working.Worker.{Worker}
use Rattle.ifl_line.specs.Hands.{AreSeats}
use Rattle.ifl_line.specs.Runners.{MayStart, HasRun}
use Rattle.ifl_line.specs.Steps.{OnlyKicks, Stepped}

-- the worker may begin
pub record MayWork {R A B C : Type 0} (line : Line R A B C) (x : Worker R A B C) : Type 0 where
  pub of : AreSeats line x.seats
  pub empty : x.items.items ≡ []
  pub one : 1 ≤ deque_capacity x.items

-- it published nothing but kicks
pub record HasWorked {R A B C : Type 0} (line : Line R A B C) (old new : Worker R A B C) : Type 0 where
  pub of : AreSeats line new.seats
  pub turn_part : new.seats.turn.part ≡ old.seats.turn.part
  pub es : List Entry
  pub stepped : Stepped old.seats.ring.known es new.seats.ring.known
  pub only : OnlyKicks es

abbrev pub MayDo : {R A B C : Type 0} → Line R A B C → Task R A B C → Type 0
MayDo line (Work x) = MayWork line x
MayDo line (Send x) = MayStart line x
MayDo line Done = Unit {0}

abbrev pub HasDone : {R A B C : Type 0} → Line R A B C → Task R A B C → Task R A B C → Type 0
HasDone line (Work x) (Work y) = HasWorked line x y
HasDone line (Work x) (Send y) = ⊥
HasDone line (Work x) Done = ⊥
HasDone line (Send x) (Work y) = ⊥
HasDone line (Send x) (Send y) = HasRun line x y
HasDone line (Send x) Done = ⊥
HasDone line Done (Work y) = ⊥
HasDone line Done (Send y) = ⊥
HasDone line Done Done = Unit {0}

-- the job may begin
abbrev pub MayBegin : {R A B C : Type 0} → Job R A B C → Type 0
MayBegin x = MayDo x.line.now x.task

-- it has ended, and its line is the same
pub record HasEnded {R A B C : Type 0} (old new : Job R A B C) : Type 0 where
  pub line : new.line.now ≡ old.line.now
  pub done : HasDone old.line.now old.task new.task
