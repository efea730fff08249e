-- Values that satisfy literals, clauses and formulas (DIMACS CNF: a formula is the conjunction of its clauses, a clause the disjunction of its literals).
use Rattle.std.specs.Prelude.{◌≡◌, ℕ, Bool, List, All, Any}
use Rattle.eq_proof.specs.Literal.{Literal}

-- a literal is true where its variable has the value that is its sign
abbrev pub MakesTrue : (ℕ → Bool) → Literal → Type 0
MakesTrue values l = values l.var ≡ l.positive

-- a clause is satisfied where one of its literals is true
abbrev pub Satisfies : (ℕ → Bool) → List Literal → Type 0
Satisfies values clause = Any (MakesTrue values) clause

-- clauses together are satisfied where each is
abbrev pub SatisfiesAll : (ℕ → Bool) → List (List Literal) → Type 0
SatisfiesAll values clauses = All (Satisfies values) clauses

-- no values satisfy the clauses
abbrev pub Unsatisfiable : List (List Literal) → Type 0
Unsatisfiable clauses = (values : ℕ → Bool) → SatisfiesAll values clauses → ⊥
