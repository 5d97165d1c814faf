-- What is said of an answer that is not there.
use Rattle.std.proofs.Common.{◌≡◌, subst}
use Rattle.std.specs.Prelude.{Option, Some, None, IfNone, IfSome}

pub if_none : {T : Type 0} (o : Option T) (P : Type 0) → P → IfNone o P
if_none None P p = p
if_none (Some x) P p = tt

pub none-so : {T : Type 0} (o : Option T) (P Q : Type 0) → (P → Q) → IfNone o P → IfNone o Q
none-so None P Q f p = f p
none-so (Some x) P Q f p = tt

pub some-so : {T : Type 0} (o : Option T) (P Q : T → Type 0) → ((x : T) → P x → Q x) → IfSome o P → IfSome o Q
some-so None P Q f p = tt
some-so (Some x) P Q f p = f x p

pub none-at : {T : Type 0} (o : Option T) (P : Type 0) → o ≡ None → IfNone o P → P
none-at None P e p = p
none-at (Some x) P e p = absurd cc

pub some-at : {T : Type 0} (o : Option T) (x : T) (P : T → Type 0) → o ≡ Some x → IfSome o P → P x
some-at {T} o x P e p = subst (λ (z : Option T). IfSome z P) e p
