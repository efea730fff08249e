-- Clauses as lists of literals.
use Rattle.std.specs.Prelude.{◌≡◌, ◌<◌, ◌⊎◌, List, true, false}
use Rattle.std.specs.List.{AllPairs}
use Rattle.eq_proof.specs.Literal.{Literal}

-- the order of literals: by variable, and then the positive one first
abbrev pub IsBefore : Literal → Literal → Type 0
IsBefore a b = (a.var < b.var) ⊎ ((a.var ≡ b.var) × (a.positive ≡ true) × (b.positive ≡ false))

-- each literal is before all later ones, so that none is there twice
abbrev pub IsClause : List Literal → Type 0
IsClause lits = AllPairs IsBefore lits
