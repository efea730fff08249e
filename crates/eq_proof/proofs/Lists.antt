-- Lists: one more element, an element at a place, and lists of inferences.
use Rattle.std.proofs.Common.{◌≡◌, ℕ, ◌≤◌, ◌<◌, ◌+◌, ◌^◌, suc, zero, List, [], ◌∷◌, ◌++◌, length, take, Some, Ok, Err, Result, OnOk, OnErr, slice_get, arith, refl, sym, ap, ◌∙◌, subst, add-one}
use Rattle.std.specs.Prelude.{All, Contains}
use Rattle.std.proofs.lemmas.List.Elements.{All-push}
use Rattle.std.proofs.lemmas.List.{length_push, map_more, take_more}
use Rattle.std.proofs.lemmas.Option.{slice_get_within, get_or_from_slice_get}
use Rattle.eq_proof.specs.Literal.{Literal}
use Rattle.eq_proof.specs.Inference.{Inference, inferences, clauses_of, IsLog}

-- what holds of the elements and of the one that a push adds
pub All-pushed : {X U E : Type 0} (P : X → Type 0) (r : Result U E) (xs ys : List X) (x : X) → OnOk r (ys ≡ xs ++ x ∷ []) → OnErr r (ys ≡ xs) → All P xs → P x → All P ys
All-pushed P (Ok u) xs ys x ok err all one = subst (All P) (sym ok) (All-push P xs x all one)
All-pushed P (Err e) xs ys x ok err all one = subst (All P) (sym err) all

-- what holds of the element at a place
pub All-at : {X : Type 0} (P : X → Type 0) (xs : List X) (place : ℕ) (x : X) → slice_get xs place ≡ Some x → All P xs → P x
All-at P xs place x is all = subst P (get_or_from_slice_get xs place x x is) (all place x (slice_get_within xs place x is))

pub length-inferences : (clauses : List (List Literal)) (rows : List (List ℕ)) → length clauses ≡ length rows → length (inferences clauses rows) ≡ length clauses
length-inferences [] rows h = refl
length-inferences (c ∷ clauses) [] h = absurd (omega arith)
length-inferences (c ∷ clauses) (r ∷ rows) h = ap suc (length-inferences clauses rows (omega arith))

pub inference_at : (clauses : List (List Literal)) (rows : List (List ℕ)) (place : ℕ) (clause : List Literal) (ants : List ℕ) → slice_get clauses place ≡ Some clause → slice_get rows place ≡ Some ants
    → slice_get (inferences clauses rows) place ≡ Some (record { clause = clause; ants = ants })
inference_at [] rows place c a p q = absurd (cc)
inference_at (c' ∷ clauses) [] place c a p q = absurd (cc)
inference_at (c' ∷ clauses) (a' ∷ rows) zero c a p q = cc
inference_at (c' ∷ clauses) (a' ∷ rows) (suc place) c a p q = inference_at clauses rows place c a p q

pub inferences-push : (clauses : List (List Literal)) (rows : List (List ℕ)) (clause : List Literal) (ants : List ℕ) → length clauses ≡ length rows
    → inferences (clauses ++ clause ∷ []) (rows ++ ants ∷ []) ≡ inferences clauses rows ++ (record { clause = clause; ants = ants }) ∷ []
inferences-push [] [] c a h = refl
inferences-push [] (a' ∷ rows) c a h = absurd (omega arith)
inferences-push (c' ∷ clauses) [] c a h = absurd (omega arith)
inferences-push (c' ∷ clauses) (a' ∷ rows) c a h = ap (λ rest. (record { clause = c'; ants = a' }) ∷ rest) (inferences-push clauses rows c a (omega arith))

pub IsLog-push : (clauses : List (List Literal)) (rows : List (List ℕ)) (clause : List Literal) (ants : List ℕ) → IsLog clauses rows → length clauses + 1 < 2 ^ 32 → All (λ n. 1 ≤ n) ants
    → IsLog (clauses ++ clause ∷ []) (rows ++ ants ∷ [])
IsLog-push clauses rows c a log few from_one = record {
  same = omega (arith, log.same, length_push clauses c, length_push rows a);
  few = omega (arith, length_push clauses c);
  from_one = All-push (All (λ n. 1 ≤ n)) rows a log.from_one from_one;
}

-- the clauses of the first steps, one step on
pub clauses_more : (log : List Inference) (place : ℕ) (step : Inference) → slice_get log place ≡ Some step → clauses_of (take (suc place) log) ≡ clauses_of (take place log) ++ step.clause ∷ []
clauses_more log place step is =
    let within = slice_get_within log place step is in
    let e = map_more (λ (s : Inference). s.clause) log place step within in
    rw (← add-one place, e, get_or_from_slice_get log place step step is) refl

-- the element at a place is a member
pub member_at : {X : Type 0} (xs : List X) (place : ℕ) (x : X) → slice_get xs place ≡ Some x → Contains xs x
member_at xs place x is = (place, slice_get_within xs place x is, get_or_from_slice_get xs place x x is)

-- the element at a place is the next of the first elements
pub taken_at : {X : Type 0} (xs : List X) (place : ℕ) (x : X) → slice_get xs place ≡ Some x → take (place + 1) xs ≡ take place xs ++ x ∷ []
taken_at xs place x is = take_more xs place x (slice_get_within xs place x is) ∙ ap (λ y. take place xs ++ y ∷ []) (get_or_from_slice_get xs place x x is)
