-- One account of what a run reads of its host, for all that is said of the run.
use Rattle.std.specs.Prelude.{◌≡◌, ◌⊎◌, ℕ, List, Option, IfSome}
use Rattle.ifl_outside.specs.Files.{Files, held}
use Rattle.ifl_engine.specs.declared.stop.Input.{Input}

-- what a read finds: the host fails, or it has the file's bytes, or there is no such file
pub data Reply : Type 0 where
  failed : Reply
  gave : (file : Option (List ℕ)) → Reply

-- what the files are found to be at one read, by name
abbrev pub Held : Type 0
Held = List ℕ → Reply

-- what they are found to be at each read of a run
abbrev pub Source : Type 0
Source = Input → Held

-- a read fails only where there is a Fault, and finds what the host tells of its files
pub record IsAccount (files : Option Files) (Fault : Type 0) (source : Source) : Type 0 where
  pub blamed : (which : Input) (name : List ℕ) → source which name ≡ failed → Fault
  pub told : IfSome files (λ fs. (which : Input) (name : List ℕ) → (source which name ≡ failed) ⊎ (source which name ≡ gave (held fs name)))

-- P of one account, whether or not the host tells its files
abbrev pub ForAccount : Option Files → Type 0 → (Source → Type 0) → Type 0
ForAccount files Fault P = (source : Source) × IsAccount files Fault source × P source
