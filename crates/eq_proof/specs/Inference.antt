-- Steps of a log as plain values.
use Rattle.std.specs.Prelude.{◌≡◌, ℕ, ◌≤◌, ◌<◌, ◌^◌, List, [], ◌∷◌, length, map, All}
use Rattle.eq_proof.specs.Literal.{Literal}

-- a clause with its antecedents, the numbers of the clauses that it follows from
pub record Inference : Type 0 where
  pub clause : List Literal
  pub ants : List ℕ

-- the clauses of a log's steps
abbrev pub clauses_of : List Inference → List (List Literal)
clauses_of log = map (λ s. s.clause) log

-- the steps whose clauses and antecedents these are
abbrev pub inferences : List (List Literal) → List (List ℕ) → List Inference
inferences [] _ = []
inferences (clause ∷ clauses) [] = []
inferences (clause ∷ clauses) (ants ∷ rows) = record { clause = clause; ants = ants } ∷ inferences clauses rows

-- what a log keeps: as many clauses as lists of antecedents, and numbers from 1
pub record IsLog (clauses : List (List Literal)) (rows : List (List ℕ)) : Type 0 where
  pub same : length clauses ≡ length rows
  pub few : length clauses < 2 ^ 32
  pub from_one : All (λ ants. All (λ n. 1 ≤ n) ants) rows
