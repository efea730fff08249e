-- Derivations: the steps of LRAT (Cruz-Filipe, Heule, Hunt, Kaufmann, Schneider-Kamp, 'Efficient Certified RAT Verification', 2017) without deletion and without RAT steps.
use Rattle.std.specs.Prelude.{◌≡◌, ℕ, ◌-◌, ◌<◌, nat_lt, List, [], ◌∷◌, ◌++◌, length, map, take, slice_get, Some, count_by}
use Rattle.eq_proof.specs.Literal.{Literal, negation}
use Rattle.eq_proof.specs.Inference.{Inference, clauses_of}
use Rattle.eq_proof.specs.Sets.{IsConsistent, IsFalsified, IsUnit}

-- clauses are numbered from 1
abbrev pub HasNumber : List (List Literal) → ℕ → List Literal → Type 0
HasNumber clauses n clause = (0 < n) × (slice_get clauses (n - 1) ≡ Some clause)

-- of the clauses with these numbers each but the last is unit, and its literal becomes true; the last has all literals false
abbrev pub Refutes : List (List Literal) → List Literal → List ℕ → Type 0
Refutes clauses set [] = ⊥
Refutes clauses set (n ∷ []) = (clause : List Literal) × HasNumber clauses n clause × IsFalsified set clause
Refutes clauses set (n ∷ m ∷ ns) = (clause : List Literal) × (l : Literal) × HasNumber clauses n clause × IsUnit set clause l × Refutes clauses (set ++ l ∷ []) (m ∷ ns)

-- a clause without a literal beside its negation, whose literals are refuted, once they are false, by its antecedents among the clauses before it
pub record IsDerivation (before : List (List Literal)) (step : Inference) : Type 0 where
  pub no_tautology : IsConsistent step.clause
  pub refuted : Refutes before (map negation step.clause) step.ants

-- the clauses before a step: the formula's, and those of the steps before it
abbrev pub clauses_before : List (List Literal) → List Inference → ℕ → List (List Literal)
clauses_before clauses log place = clauses ++ clauses_of (take place log)

-- the step at a place is a derivation
abbrev pub DerivesAt : List (List Literal) → List Inference → ℕ → Type 0
DerivesAt clauses log place = (step : Inference) × (slice_get log place ≡ Some step) × IsDerivation (clauses_before clauses log place) step

-- each step is a derivation
abbrev pub AllDerive : List (List Literal) → List Inference → Type 0
AllDerive clauses log = (place : ℕ) → place < length log → DerivesAt clauses log place

-- this step isn't a derivation, and all before it are
pub record IsFirstBad (clauses : List (List Literal)) (log : List Inference) (place : ℕ) : Type 0 where
  pub there : place < length log
  pub bad : ¬ DerivesAt clauses log place
  pub good_before : (k : ℕ) → k < place → DerivesAt clauses log k

-- how many steps have a literal
abbrev pub nonempty_of : List Inference → ℕ
nonempty_of log = count_by (λ step. nat_lt 0 (length step.clause)) log

-- the last step's clause is the empty one
abbrev pub EndsEmpty : List Inference → Type 0
EndsEmpty log = slice_get (clauses_of log) (length log - 1) ≡ Some []
