-- Lists of lists that are kept in one array, with the place where each ends.
use Rattle.std.specs.Prelude.{◌≡◌, ℕ, ◌≤◌, suc, zero, List, [], ◌∷◌, slice_range, slice_index}

-- the parts of a list, each from where the one before it ends, the first from a given place
abbrev pub parts_of : {X : Type 0} → List X → ℕ → List ℕ → List (List X)
parts_of items from [] = []
parts_of items from (end ∷ ends) = slice_range items from end ∷ parts_of items end ends

-- no end is below the one before it, and the last is the length
abbrev pub IsDivision : ℕ → ℕ → List ℕ → Type 0
IsDivision len from [] = from ≡ len
IsDivision len from (end ∷ ends) = (from ≤ end) × IsDivision len end ends

-- where the part at a place begins
abbrev pub start_at : ℕ → List ℕ → ℕ → ℕ
start_at from ends zero = from
start_at from ends (suc place) = slice_index ends place
