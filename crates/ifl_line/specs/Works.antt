-- The jobs of a run in a list: before they run, and when they are done.
use Rattle.std.specs.Prelude.{◌≡◌, ℕ, ◌+◌, ◌≤◌, List, [], ◌∷◌, length}
use Rattle.ifl_pcap.specs.declared.capture.Capture.{Capture}
use Rattle.ifl_pcap.specs.declared.frame.Frame.{Frame}
use Rattle.ifl_ring.specs.Seats.{events}
use Rattle.ifl_line.specs.declared.away_line.AwayLine.{AwayLine}
use Rattle.ifl_line.specs.declared.gathering.Ended.{Ended}
use Rattle.ifl_line.specs.declared.jobs.Job.{Job}
use Rattle.ifl_line.specs.declared.jobs.Task.{Task}
use Rattle.ifl_line.specs.declared.jobs.Task.TheVariants.{Work, Send, Done}
use Rattle.ifl_line.specs.declared.line.Line.{Line}
use Rattle.ifl_line.specs.Hands.{AreOf, AreSeats}
use Rattle.ifl_line.specs.Jobs.{MayDo}
use Rattle.ifl_line.specs.Sent.{IsSent}
use Rattle.ifl_line.specs.Steps.{OnlyKicks}

-- no capture has more frames than a sender may have
abbrev pub AreFew : List Capture → Type 0
AreFew [] = Unit {0}
AreFew (c ∷ cs) = (length c.frames ≤ 1000000) × AreFew cs

-- the frames of each capture
abbrev pub files_of : List Capture → List (List Frame)
files_of [] = []
files_of (c ∷ cs) = c.frames ∷ files_of cs

-- the captures that senders leave, their frames, and the lines
abbrev pub captures_of : List Ended → List Capture
captures_of [] = []
captures_of (x ∷ xs) = x.capture ∷ captures_of xs

abbrev pub files_in : List Ended → List (List Frame)
files_in [] = []
files_in (x ∷ xs) = x.capture.frames ∷ files_in xs

abbrev pub turned_in : List Ended → List (List AwayLine)
turned_in [] = []
turned_in (x ∷ xs) = x.away.items ∷ turned_in xs

module _ {R A B C : Type 0} where
  abbrev pub tasks_of : List (Job R A B C) → List (Task R A B C)
  tasks_of [] = []
  tasks_of (j ∷ js) = j.task ∷ tasks_of js

  -- all jobs are over this line
  abbrev pub AreAt : Line R A B C → List (Job R A B C) → Type 0
  AreAt line [] = Unit {0}
  AreAt line (j ∷ js) = (j.line.now ≡ line) × AreAt line js

  -- the captures of the senders, in order
  abbrev pub captures_in : List (Task R A B C) → List Capture
  captures_in [] = []
  captures_in (Work x ∷ xs) = captures_in xs
  captures_in (Send x ∷ xs) = x.capture ∷ captures_in xs
  captures_in (Done ∷ xs) = captures_in xs

  -- what the senders leave, in order
  abbrev pub ended_in : List (Task R A B C) → List Ended
  ended_in [] = []
  ended_in (Work x ∷ xs) = ended_in xs
  ended_in (Send x ∷ xs) = record { capture = x.capture; away = x.sender.away } ∷ ended_in xs
  ended_in (Done ∷ xs) = ended_in xs

  -- the parts of the ring, of the turnstile and of the pool that they have
  abbrev pub ring_parts : List (Task R A B C) → ℕ
  ring_parts [] = 0
  ring_parts (Work x ∷ xs) = x.seats.ring.known.part + ring_parts xs
  ring_parts (Send x ∷ xs) = x.hands.seats.ring.known.part + ring_parts xs
  ring_parts (Done ∷ xs) = ring_parts xs

  abbrev pub turn_parts : List (Task R A B C) → ℕ
  turn_parts [] = 0
  turn_parts (Work x ∷ xs) = x.seats.turn.part + turn_parts xs
  turn_parts (Send x ∷ xs) = x.hands.seats.turn.part + turn_parts xs
  turn_parts (Done ∷ xs) = turn_parts xs

  abbrev pub pass_parts : List (Task R A B C) → ℕ
  pass_parts [] = 0
  pass_parts (Work x ∷ xs) = pass_parts xs
  pass_parts (Send x ∷ xs) = x.hands.pass.known.part + pass_parts xs
  pass_parts (Done ∷ xs) = pass_parts xs

  -- they may begin, and have done nothing yet; the senders have the numbers from s on
  abbrev pub AreSet : Line R A B C → ℕ → List (Task R A B C) → Type 0
  AreSet line s [] = Unit {0}
  AreSet line s (Work x ∷ xs) = MayDo line (Work x) × (events x.seats.ring.known ≡ []) × AreSet line s xs
  AreSet line s (Send x ∷ xs) = MayDo line (Send x) × (x.sender.number ≡ s) × AreSet line (s + 1) xs
  AreSet line s (Done ∷ xs) = AreSet line s xs

  -- they are done, and each is a part of the run
  abbrev pub AreDone : Line R A B C → ℕ → List (Task R A B C) → Type 0
  AreDone line s [] = Unit {0}
  AreDone line s (Work x ∷ xs) = AreSeats line x.seats × OnlyKicks (events x.seats.ring.known) × AreDone line s xs
  AreDone line s (Send x ∷ xs) =
      AreOf line x.hands × IsSent line.ring.size line.rules s (x.capture.frames ∷ []) (x.sender.away.items ∷ []) (events x.hands.seats.ring.known) x.hands.pass.known.counts × AreDone line (s + 1) xs
  AreDone line s (Done ∷ xs) = AreDone line s xs

  -- the tasks ys are what the tasks xs came to: they are done, and have the captures and the parts that those had
  pub record AllDone (line : Line R A B C) (s : ℕ) (xs ys : List (Task R A B C)) : Type 0 where
    pub done : AreDone line s ys
    pub captures : captures_of (ended_in ys) ≡ captures_in xs
    pub rings : ring_parts ys ≡ ring_parts xs
    pub turns : turn_parts ys ≡ turn_parts xs
    pub passes : pass_parts ys ≡ pass_parts xs
