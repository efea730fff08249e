-- Values of a formula's variables.
use Rattle.std.specs.Prelude.{ℕ, ◌+◌, ◌-◌, ◌*◌, Bool, List}
use Rattle.eq_proof.specs.Literal.{Literal}
use Rattle.eq_proof.specs.Satisfying.{SatisfiesAll}
use Rattle.eq_model.specs.Frames.{values}
use Rattle.eq_model.specs.System.{Values}

-- some values satisfy the clauses
abbrev pub IsSatisfiable : List (List Literal) → Type 0
IsSatisfiable clauses = (values : ℕ → Bool) × SatisfiesAll values clauses

-- the value of a variable in a list of the values of the variables from 1 on, and 0 beyond the list
abbrev pub value_of : List Bool → ℕ → Bool
value_of bits var = values bits (var - 1)

-- the values of the n nodes of a part, by frame and node
abbrev pub node_values : (ℕ → Bool) → ℕ → ℕ → Values
node_values values n f m = values (f * n + m + 1)
