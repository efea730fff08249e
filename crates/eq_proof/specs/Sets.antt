-- Sets of literals that are true, and what clauses say under them. A set is a list of which only the members count.
use Rattle.std.specs.Prelude.{◌≡◌, ◌⊎◌, List, All, Contains}
use Rattle.eq_proof.specs.Literal.{Literal, negation}

-- no literal is there beside its negation
abbrev pub IsConsistent : List Literal → Type 0
IsConsistent set = (l : Literal) → Contains set l → Contains set (negation l) → ⊥

-- a literal is false where its negation is true
abbrev pub IsFalse : List Literal → Literal → Type 0
IsFalse set l = Contains set (negation l)

-- a literal has no value where neither it nor its negation is true
abbrev pub HasNoValue : List Literal → Literal → Type 0
HasNoValue set l = (¬ Contains set l) × (¬ Contains set (negation l))

-- all literals of a clause are false
abbrev pub IsFalsified : List Literal → List Literal → Type 0
IsFalsified set clause = All (IsFalse set) clause

-- one literal of a clause has no value, and all others are false
pub record IsUnit (set clause : List Literal) (l : Literal) : Type 0 where
  pub member : Contains clause l
  pub no_value : HasNoValue set l
  pub others : All (λ m. (m ≡ l) ⊎ IsFalse set m) clause

-- what is in the one is in the other
abbrev pub IsSubset : List Literal → List Literal → Type 0
IsSubset few many = (l : Literal) → Contains few l → Contains many l
