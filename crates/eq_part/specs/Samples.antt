-- What the examples compute with.
use Rattle.std.specs.Prelude.{ℕ, List, [], ◌∷◌, Bool, true, false, Some, ◌==◌, ◌||◌, nat_lt}
use Rattle.eq_match.specs.declared.types.Pair.{Pair}
use Rattle.eq_match.specs.Pairs.{bit}
use Rattle.eq_part.specs.Partitions.{Division, from_groups}

abbrev pub joined : ℕ → Bool → Pair
joined k input = record { gold = bit k 0; gate = bit k 0; input = input; inverted = false }

-- an input, and three pairs more
abbrev pub four : List Pair
four = joined 0 true ∷ joined 1 false ∷ joined 2 false ∷ joined 3 false ∷ []

-- the partitions of two groups, and with a name for each position's
abbrev pub begun : Division
begun = from_groups ((1 ∷ 2 ∷ []) ∷ (3 ∷ []) ∷ [])

abbrev pub named : Division
named = record { together = begun.together; called = λ i. Some (i ∷ []) }

-- the first partition with the input, and both partitions
abbrev pub first_marked : ℕ → Bool
first_marked i = nat_lt i 3

abbrev pub both_marked : ℕ → Bool
both_marked i = (i == 1) || ((i == 2) || (i == 3))
