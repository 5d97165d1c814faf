-- The one history of a ring, oldest step first, and what each side has sent, knows and did in it.
use Rattle.std.specs.Prelude.{◌≡◌, ℕ, ◌+◌, List, [], ◌∷◌, ◌++◌, drop}
use Rattle.ifl_desc.specs.declared.desc.Desc.{Desc}
use Rattle.ifl_desc.specs.declared.history.Side.{Side}
use Rattle.ifl_desc.specs.declared.history.Side.TheVariants.{Driver, Device}
use Rattle.ifl_desc.specs.declared.history.Event.{Event}
use Rattle.ifl_desc.specs.declared.history.Event.TheVariants.{Sent, Looked, Cleared}

-- the side across
abbrev pub other : Side → Side
other Driver = Device
other Device = Driver

-- what the side has sent in one step
abbrev pub sent_in : Side → Event → List Desc
sent_in Driver (Sent Driver ds) = ds
sent_in Driver (Sent Device ds) = []
sent_in Driver (Looked b n) = []
sent_in Driver (Cleared n) = []
sent_in Device (Sent Driver ds) = []
sent_in Device (Sent Device ds) = ds
sent_in Device (Looked b n) = []
sent_in Device (Cleared n) = []

-- how many more of the other side's the side knows of by one step
abbrev pub known_in : Side → Event → ℕ
known_in Driver (Looked Driver n) = n
known_in Driver (Looked Device n) = 0
known_in Driver (Sent b ds) = 0
known_in Driver (Cleared n) = n
known_in Device (Looked Driver n) = 0
known_in Device (Looked Device n) = n
known_in Device (Sent b ds) = 0
known_in Device (Cleared n) = 0

-- the step, where it is the side's own
abbrev pub own_in : Side → Event → List Event
own_in Driver (Sent Driver ds) = Sent Driver ds ∷ []
own_in Driver (Sent Device ds) = []
own_in Driver (Looked Driver n) = Looked Driver n ∷ []
own_in Driver (Looked Device n) = []
own_in Driver (Cleared n) = Cleared n ∷ []
own_in Device (Sent Driver ds) = []
own_in Device (Sent Device ds) = Sent Device ds ∷ []
own_in Device (Looked Driver n) = []
own_in Device (Looked Device n) = Looked Device n ∷ []
own_in Device (Cleared n) = []

-- all that the side has sent, oldest first
abbrev pub sent : Side → List Event → List Desc
sent r [] = []
sent r (e ∷ h) = sent_in r e ++ sent r h

-- how many of the other side's the side knows of
abbrev pub known : Side → List Event → ℕ
known r [] = 0
known r (e ∷ h) = known_in r e + known r h

-- the side's own steps
abbrev pub own : Side → List Event → List Event
own r [] = []
own r (e ∷ h) = own_in r e ++ own r h

-- what the device has returned and the driver does not know of
abbrev pub uncounted : List Event → List Desc
uncounted h = drop (known Driver h) (sent Device h)

-- how many times the side has looked, in one step and in all
abbrev pub looks_in : Side → Event → ℕ
looks_in Driver (Looked Driver n) = 1
looks_in Driver (Looked Device n) = 0
looks_in Driver (Sent b ds) = 0
looks_in Driver (Cleared n) = 0
looks_in Device (Looked Driver n) = 0
looks_in Device (Looked Device n) = 1
looks_in Device (Sent b ds) = 0
looks_in Device (Cleared n) = 0

abbrev pub looks : Side → List Event → ℕ
looks r [] = 0
looks r (e ∷ h) = looks_in r e + looks r h

-- how many times the driver has rung the doorbell, in one step and in all
abbrev pub bells_in : Event → ℕ
bells_in (Sent Driver ds) = 1
bells_in (Sent Device ds) = 0
bells_in (Looked b n) = 0
bells_in (Cleared n) = 0

abbrev pub bells : List Event → ℕ
bells [] = 0
bells (e ∷ h) = bells_in e + bells h

-- the step is a load of the side's, or the driver's clear: it sends nothing, not even an empty list
abbrev pub IsLook : Side → Event → Type 0
IsLook Driver (Looked Driver n) = Unit {0}
IsLook Driver (Looked Device n) = ⊥
IsLook Driver (Sent b ds) = ⊥
IsLook Driver (Cleared n) = Unit {0}
IsLook Device (Looked Driver n) = ⊥
IsLook Device (Looked Device n) = Unit {0}
IsLook Device (Sent b ds) = ⊥
IsLook Device (Cleared n) = ⊥

abbrev pub AreLooks : Side → List Event → Type 0
AreLooks r [] = Unit {0}
AreLooks r (e ∷ es) = IsLook r e × AreLooks r es

-- of the side's own steps, the history h has those of g and looks alone after them
abbrev pub LooksOnly : Side → List Event → List Event → Type 0
LooksOnly r g h = (es : List Event) × (own r h ≡ own r g ++ es) × AreLooks r es
