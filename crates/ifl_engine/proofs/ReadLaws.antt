-- What was read is what an account of the files says.
use Rattle.std.proofs.Common.{◌≡◌, ◌≢◌, ◌⊎◌, ℕ, Bool, true, false, cond, zero, suc, ◌<◌, ◌≤◌, List, [], ◌∷◌, length, Option, Some, None, Result, Ok, Err, refl, sym, ap, subst, ◌∙◌, arith, inl, inr}
use Rattle.std.specs.Prelude.{IfSome, IsSomeAnd}
use Rattle.std.specs.Global.{Vec}
use Rattle.std.proofs.lemmas.Bool.{le-ltb, lt-ltb}
use Rattle.ifl_outside.specs.Files.{Files, held}
use Rattle.ifl_outside.specs.Fetched.{IsFetch}
use Rattle.ifl_outside.specs.declared.host.Fetch.TheVariants as fetch
use Rattle.ifl_pcap.specs.declared.frame.Frame.{Frame}
use Rattle.ifl_pcap.specs.declared.fault.CaptureWhy.{CaptureWhy}
use Rattle.ifl_pcap.specs.declared.fault.CaptureFault.TheVariants.{Bad}
use Rattle.ifl_pcap.specs.Reading.{capture_of}
use Rattle.ifl_engine.specs.declared.stop.Stop.{Stop}
use Rattle.ifl_engine.specs.declared.stop.Stop.TheVariants as stop
use Rattle.ifl_engine.specs.declared.stop.Input.{Input}
use Rattle.ifl_engine.specs.Account.{Reply, failed, gave, Source, IsAccount, ForAccount}
use Rattle.ifl_engine.specs.Loading.{◌>>=◌, file_at, capture_in}
use Rattle.ifl_engine.specs.Loaded.{bytes_of}
use Rattle.ifl_engine.specs.Steps.{IsRead}

-- ---- what a file within its limit, an absent one and a longer one are read as

pub file_at-within : (which : Input) (limit : ℕ) (bytes : List ℕ) → length bytes ≤ limit → file_at which limit (gave (Some bytes)) ≡ Ok bytes
file_at-within which limit bytes le = rw (le-ltb limit (length bytes) le) refl

pub file_at-longer : (which : Input) (limit : ℕ) (bytes : List ℕ) → limit < length bytes → file_at which limit (gave (Some bytes)) ≡ Err (stop.TooLong which)
file_at-longer which limit bytes lt = rw (lt-ltb limit (length bytes) lt) refl

-- some bytes that are longer than a number; kept abstract, so that nothing counts them out
pub longer : (n : ℕ) → (bytes : List ℕ) × (n < length bytes)
longer zero = (0 ∷ [], omega arith)
longer (suc n) = let rest = longer n in (0 ∷ rest.0, omega (arith, rest.1))

long_at : (n : ℕ) (file : Option (List ℕ)) → IsSomeAnd file (λ bytes. n < length bytes) → (bytes : List ℕ) × (file ≡ Some bytes) × (n < length bytes)
long_at n None h = absurd h
long_at n (Some bytes) h = (bytes, refl, h)

-- an account of what the host tells, or of a file like this where it tells none
abbrev finds : Option Files → Option (List ℕ) → Source
finds None file which name = gave file
finds (Some fs) file which name = gave (held fs name)

-- what is given is no failure
gave-not-failed : (file : Option (List ℕ)) → gave file ≢ failed
gave-not-failed file is = absurd cc

finds-account : (files : Option Files) (file : Option (List ℕ)) (Fault : Type 0) → IsAccount files Fault (finds files file)
finds-account None file Fault = record { blamed = λ which name is. absurd (gave-not-failed file is); told = tt }
finds-account (Some fs) file Fault = record { blamed = λ which name is. absurd (gave-not-failed (held fs name) is); told = λ which name. inr refl }

fails-account : (files : Option Files) (Fault : Type 0) → Fault → IsAccount files Fault (λ which name. failed)
fails-account None Fault fault = record { blamed = λ which name is. fault; told = tt }
fails-account (Some fs) Fault fault = record { blamed = λ which name is. fault; told = λ which name. inl refl }

pub for_bytes : (files : Option Files) (Fault : Type 0) (which : Input) (name : List ℕ) (limit : ℕ) (bytes : Vec ℕ) → length bytes.items ≤ limit → IfSome files (λ fs. IsFetch (held fs name) limit (fetch.Bytes bytes.items)) → ForAccount files Fault (λ source. IsRead bytes_of (Ok bytes) (file_at which limit (source which name)))
for_bytes None Fault which name limit bytes short told = (finds None (Some bytes.items), finds-account None (Some bytes.items) Fault, file_at-within which limit bytes.items short)
for_bytes (Some fs) Fault which name limit bytes short told = (finds (Some fs) None, finds-account (Some fs) None Fault, ap (λ (file : Option (List ℕ)). file_at which limit (gave file)) told.0 ∙ file_at-within which limit bytes.items told.1)

pub for_absent : (files : Option Files) (Fault : Type 0) (which : Input) (name : List ℕ) (limit : ℕ) → IfSome files (λ fs. IsFetch (held fs name) limit fetch.Absent) → ForAccount files Fault (λ source. IsRead bytes_of (Err (stop.Absent which)) (file_at which limit (source which name)))
for_absent None Fault which name limit told = (finds None None, finds-account None None Fault, refl)
for_absent (Some fs) Fault which name limit told = (finds (Some fs) None, finds-account (Some fs) None Fault, ap (λ (file : Option (List ℕ)). file_at which limit (gave file)) told)

pub for_long : (files : Option Files) (Fault : Type 0) (which : Input) (name : List ℕ) (limit : ℕ) → IfSome files (λ fs. IsFetch (held fs name) limit fetch.TooLong) → ForAccount files Fault (λ source. IsRead bytes_of (Err (stop.TooLong which)) (file_at which limit (source which name)))
for_long None Fault which name limit told = let b = longer limit in (finds None (Some b.0), finds-account None (Some b.0) Fault, file_at-longer which limit b.0 b.1)
for_long (Some fs) Fault which name limit told = let b = long_at limit (held fs name) told in (finds (Some fs) None, finds-account (Some fs) None Fault, ap (λ (file : Option (List ℕ)). file_at which limit (gave file)) b.1 ∙ file_at-longer which limit b.0 b.2)

pub for_failed : (files : Option Files) (Fault : Type 0) (which : Input) (name : List ℕ) (limit : ℕ) → Fault → ForAccount files Fault (λ source. IsRead bytes_of (Err (stop.ReadFailed which)) (file_at which limit (source which name)))
for_failed files Fault which name limit fault = (λ which name. failed, fails-account files Fault fault, refl)

-- a clause that holds of any account
pub for_any : (files : Option Files) (Fault : Type 0) (P : Source → Type 0) → ((source : Source) → P source) → ForAccount files Fault P
for_any files Fault P h = (finds files None, finds-account files None Fault, h (finds files None))

-- what is blamed on one fault may be blamed on another that comes with it
later_fault : (files : Option Files) (F G : Type 0) (source : Source) → (F → G) → IsAccount files F source → IsAccount files G source
later_fault files F G source step a = record { blamed = λ which name is. step (a.blamed which name is); told = a.told }

pub for_each : (files : Option Files) (F G : Type 0) (P Q : Source → Type 0) → (F → G) → ((source : Source) → P source → Q source) → ForAccount files F P → ForAccount files G Q
for_each files F G P Q fault step h = (h.0, later_fault files F G h.0 fault h.1, step h.0 h.2)

-- what holds whichever account it is
pub from_account : (files : Option Files) (Fault : Type 0) (P : Source → Type 0) (X : Type 0) → ((source : Source) → P source → X) → ForAccount files Fault P → X
from_account files Fault P X step h = step h.0 h.2

-- one of two accounts at each read: the first where the test says so
abbrev pub joined : (Input → Bool) → Source → Source → Source
joined first p q which name = cond (first which) (p which name) (q which name)

either : (b : Bool) (x y : Reply) (P : Reply → Type 0) → P x → P y → P (cond b x y)
either true x y P a b = a
either false x y P a b = b

joined_account : (files : Option Files) (F G K : Type 0) (first : Input → Bool) (p q : Source) → (F → K) → (G → K) → IsAccount files F p → IsAccount files G q → IsAccount files K (joined first p q)
joined_account None F G K first p q f g a b = record {
  blamed = λ which name. either (first which) (p which name) (q which name) (λ r. r ≡ failed → K) (λ is. f (a.blamed which name is)) (λ is. g (b.blamed which name is));
  told = tt;
}
joined_account (Some fs) F G K first p q f g a b = record {
  blamed = λ which name. either (first which) (p which name) (q which name) (λ r. r ≡ failed → K) (λ is. f (a.blamed which name is)) (λ is. g (b.blamed which name is));
  told = λ which name. either (first which) (p which name) (q which name) (λ r. (r ≡ failed) ⊎ (r ≡ gave (held fs name))) (a.told which name) (b.told which name);
}

-- what holds of the first reads by one account, and what holds of the others by another, hold of both by one
pub for_both : (files : Option Files) (F G K : Type 0) (first : Input → Bool) (P Q R : Source → Type 0) → (F → K) → (G → K) → ((p q : Source) → P p → Q q → R (joined first p q))
    → ForAccount files F P → ForAccount files G Q → ForAccount files K R
for_both files F G K first P Q R f g step p q = (joined first p.0 q.0, joined_account files F G K first p.0 q.0 f g p.1 q.1, step p.0 q.0 p.2 q.2)

-- ---- what stands behind a file that was read

pub capture_in-ok : (n : ℕ) (bytes : List ℕ) (fs : List Frame) → capture_of bytes ≡ Ok fs → capture_in n bytes ≡ Ok fs
capture_in-ok n bytes fs is = rw is refl

pub capture_in-bad : (n : ℕ) (bytes : List ℕ) (at : ℕ) (why : CaptureWhy) → capture_of bytes ≡ Err (Bad at why) → capture_in n bytes ≡ Err (stop.Capture n at why)
capture_in-bad n bytes at why is = rw is refl

-- what was not read stops what stands behind it
pub IsRead-stopped : {X Y Z W : Type 0} (view : X → Y) (seen : Z → W) (read : Result Y Stop) (then : Y → Result W Stop) (why : Stop) → IsRead view (Err why) read → IsRead seen (Err why) (read >>= then)
IsRead-stopped view seen read then stop.Memory is = tt
IsRead-stopped view seen read then (stop.Words f) is = absurd is
IsRead-stopped view seen read then stop.WireFailed is = absurd is
IsRead-stopped view seen read then stop.OrderFailed is = absurd is
IsRead-stopped view seen read then stop.PrintFailed is = absurd is
IsRead-stopped {X} {Y} view seen read then why is = ap (λ (r : Result Y Stop). r >>= then) is

-- what was read, and what stands behind it
pub IsRead-then : {Y Z W : Type 0} (seen : Z → W) (r : Result Z Stop) (read : Result Y Stop) (then : Y → Result W Stop) (y : Y) → read ≡ Ok y → IsRead seen r (then y) → IsRead seen r (read >>= then)
IsRead-then {Y} seen r read then y is h = subst (IsRead seen r) (sym (ap (λ (f : Result Y Stop). f >>= then) is)) h
