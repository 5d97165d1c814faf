-- What is given by each of a list in turn, up to the first that stops.
use Rattle.std.proofs.Common.{◌≡◌, ℕ, suc, ◌+◌, ◌<◌, ◌≤◌, List, [], ◌∷◌, ◌++◌, length, Result, Ok, Err, refl, sym, ap, subst, ◌∙◌, arith}
use Rattle.ifl_engine.specs.declared.stop.Stop.{Stop}
use Rattle.ifl_engine.specs.Loading.{◌>>=◌, each_from}
use Rattle.ifl_engine.specs.Steps.{IsRead}
use Rattle.ifl_engine.proofs.ReadLaws.{IsRead-stopped, IsRead-then}

-- what is given in front, and behind it
abbrev then_behind : {B : Type 0} → Result (List B) Stop → Result (List B) Stop → Result (List B) Stop
then_behind front behind = front >>= λ ys. behind >>= λ ws. Ok (ys ++ ws)

abbrev with_first : {B : Type 0} → B → Result (List B) Stop → Result (List B) Stop
with_first y others = others >>= λ ys. Ok (y ∷ ys)

nothing_before : {B : Type 0} → (behind : Result (List B) Stop) → then_behind (Ok []) behind ≡ behind
nothing_before (Ok ws) = refl
nothing_before (Err e) = refl

first_before : {B : Type 0} → (y : B) (front behind : Result (List B) Stop) → with_first y (then_behind front behind) ≡ then_behind (with_first y front) behind
first_before y (Err e) behind = refl
first_before y (Ok ys) (Err e) = refl
first_before y (Ok ys) (Ok ws) = refl

one_before : {B : Type 0} → (one : Result B Stop) (all front behind : Result (List B) Stop) → all ≡ then_behind front behind → (one >>= λ y. with_first y all) ≡ then_behind (one >>= λ y. with_first y front) behind
one_before (Err e) all front behind is = refl
one_before (Ok y) all front behind is = ap (with_first y) is ∙ first_before y front behind

-- two lists behind one another
pub each_from-append : {A B : Type 0} → (give : ℕ → A → Result B Stop) (n : ℕ) (xs zs : List A) → each_from give n (xs ++ zs) ≡ then_behind (each_from give n xs) (each_from give (n + length xs) zs)
each_from-append give n [] zs = ap (λ (k : ℕ). each_from give k zs) (let e : n ≡ n + 0 = omega arith in e) ∙ sym (nothing_before (each_from give (n + 0) zs))
each_from-append give n (x ∷ xs) zs =
    let from : (n + 1) + length xs ≡ n + suc (length xs) = omega arith in
    one_before (give n x) (each_from give (n + 1) (xs ++ zs)) (each_from give (n + 1) xs) (each_from give (n + suc (length xs)) zs)
    (each_from-append give (n + 1) xs zs ∙ ap (λ (k : ℕ). then_behind (each_from give (n + 1) xs) (each_from give k zs)) from)

-- one more was given
pub each_from-more : {A B : Type 0} → (give : ℕ → A → Result B Stop) (n : ℕ) (front : List A) (x : A) (ys : List B) (y : B) → n ≡ length front → each_from give 0 front ≡ Ok ys → give n x ≡ Ok y → each_from give 0 (front ++ x ∷ []) ≡ Ok (ys ++ y ∷ [])
each_from-more {A} {B} give n front x ys y at before is =
    let here : give (0 + length front) x ≡ Ok y = ap (λ (k : ℕ). give k x) (let e : 0 + length front ≡ n = omega arith in e) ∙ is in
    each_from-append give 0 front (x ∷ []) ∙ ap (λ (r : Result (List B) Stop). then_behind r (each_from give (0 + length front) (x ∷ []))) before
    ∙ ap (λ (r : Result B Stop). then_behind (Ok ys) (r >>= λ w. Ok (w ∷ []))) here

-- the next one stops
pub each_from-stopped : {A B X Z : Type 0} → (view : X → B) (seen : Z → List B) (give : ℕ → A → Result B Stop) (n : ℕ) (front : List A) (x : A) (rest : List A) (ys : List B) (why : Stop) → n ≡ length front → each_from give 0 front ≡ Ok ys → IsRead view (Err why) (give n x)
    → IsRead seen (Err why) (each_from give 0 (front ++ x ∷ rest))
each_from-stopped {A} {B} {X} {Z} view seen give n front x rest ys why at before is =
    let here : IsRead view (Err why) (give (0 + length front) x) = subst (λ (k : ℕ). IsRead view (Err why) (give k x)) (let e : n ≡ 0 + length front = omega arith in e) is in
    let others : Result (List B) Stop = each_from give ((0 + length front) + 1) rest in
    let behind : IsRead seen (Err why) (each_from give (0 + length front) (x ∷ rest)) = IsRead-stopped view seen (give (0 + length front) x) (λ y. with_first y others) why here in
    subst (IsRead seen (Err why)) (sym (each_from-append give 0 front (x ∷ rest)))
    (IsRead-then seen (Err why) (each_from give 0 front) (λ (f : List B). each_from give (0 + length front) (x ∷ rest) >>= λ ws. Ok (f ++ ws)) ys before
    (IsRead-stopped seen seen (each_from give (0 + length front) (x ∷ rest)) (λ ws. Ok (ys ++ ws)) why behind))

-- two that give the same at each number of the list
pub each_from-same : {A B : Type 0} → (give other : ℕ → A → Result B Stop) (n : ℕ) (xs : List A) → ((k : ℕ) (x : A) → n ≤ k → k < n + length xs → give k x ≡ other k x) → each_from give n xs ≡ each_from other n xs
each_from-same give other n [] same = refl
each_from-same {A} {B} give other n (x ∷ xs) same =
    let others : each_from give (n + 1) xs ≡ each_from other (n + 1) xs = each_from-same give other (n + 1) xs (λ k z le lt. same k z (omega arith) (omega arith)) in
    ap (λ (r : Result B Stop). r >>= λ y. with_first y (each_from give (n + 1) xs)) (same n x (omega arith) (omega arith))
    ∙ ap (λ (r : Result (List B) Stop). other n x >>= λ y. with_first y r) others
