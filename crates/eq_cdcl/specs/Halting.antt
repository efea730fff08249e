-- What the values that are answered say.
use Rattle.std.specs.Prelude.{ℕ, ◌-◌, Bool, false, List, slice_index_or}

-- a variable's value in a list in which that of the variable v is at the place v - 1
abbrev pub value_in : List Bool → ℕ → Bool
value_in bits var = slice_index_or bits (var - 1) false
