-- The clauses before a step: how many, and which.
use Rattle.std.proofs.Common.{◌≡◌, ℕ, ◌+◌, ◌<◌, ◌≤◌, suc, zero, List, [], ◌∷◌, ◌++◌, length, take, slice_get, Some, arith, refl, length-append}
use Rattle.std.proofs.lemmas.List.{length-take-le, length-map}
use Rattle.std.proofs.lemmas.Option.{slice_get-map}
use Rattle.eq_proof.specs.Literal.{Literal}
use Rattle.eq_proof.specs.Inference.{Inference, clauses_of}
use Rattle.eq_proof.specs.Derivation.{clauses_before}

pub length-before : (clauses : List (List Literal)) (log : List Inference) (steps : ℕ) → steps ≤ length log → length (clauses_before clauses log steps) ≡ length clauses + steps
length-before clauses log steps h =
    let taken = length-take-le steps log h in
    let mapped = length-map (take steps log) (λ (s : Inference). s.clause) in
    omega (arith, length-append clauses (clauses_of (take steps log)))

pub get_left : {X : Type 0} (xs ys : List X) (k : ℕ) (x : X) → slice_get xs k ≡ Some x → slice_get (xs ++ ys) k ≡ Some x
get_left [] ys k x e = absurd (cc)
get_left (y ∷ xs) ys zero x e = e
get_left (y ∷ xs) ys (suc k) x e = get_left xs ys k x e

pub get_right : {X : Type 0} (xs ys : List X) (k j : ℕ) (x : X) → k ≡ length xs + j → slice_get ys j ≡ Some x → slice_get (xs ++ ys) k ≡ Some x
get_right [] ys k j x e h = let same : k ≡ j = omega arith in rw same h
get_right (y ∷ xs) ys zero j x e h = absurd (omega arith)
get_right (y ∷ xs) ys (suc k) j x e h = get_right xs ys k j x (omega arith) h

get_taken : {X : Type 0} (xs : List X) (n k : ℕ) (x : X) → k < n → slice_get xs k ≡ Some x → slice_get (take n xs) k ≡ Some x
get_taken [] n k x h e = absurd (cc)
get_taken (y ∷ xs) zero k x h e = absurd (omega arith)
get_taken (y ∷ xs) (suc n) zero x h e = e
get_taken (y ∷ xs) (suc n) (suc k) x h e = get_taken xs n k x (omega arith) e

-- the clause of an earlier step
pub step_before : (clauses : List (List Literal)) (log : List Inference) (steps place step : ℕ) (s : Inference) → place ≡ length clauses + step → step < steps → slice_get log step ≡ Some s
    → slice_get (clauses_before clauses log steps) place ≡ Some s.clause
step_before clauses log steps place step s at within is =
    let mapped : slice_get (clauses_of (take steps log)) step ≡ Some s.clause = rw (slice_get-map (λ (s : Inference). s.clause) (take steps log) step, get_taken log steps step s within is) refl in
    get_right clauses (clauses_of (take steps log)) place step s.clause at mapped
