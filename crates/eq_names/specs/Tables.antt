-- Names and their numbers.
use Rattle.std.specs.Prelude.{◌≡◌, slice_get, Some, ℕ, List, [], ◌∷◌, ◌++◌, Option, position, if◌then◌else◌}
use Rattle.std.specs.List.{list_any}
use Rattle.std.specs.Str.{bytes_eq}

-- the number of a text: its place among the names
abbrev pub number_of : List (List ℕ) → List ℕ → Option ℕ
number_of names text = position (λ name. bytes_eq text name) names

-- the names with this one: it comes last where it isn't there
abbrev pub with_name : List (List ℕ) → List ℕ → List (List ℕ)
with_name names name = if list_any (λ other. bytes_eq name other) names then names else names ++ name ∷ []

-- each name is found at its place, so no two are the same
abbrev pub AreDistinct : List (List ℕ) → Type 0
AreDistinct names = (i : ℕ) (name : List ℕ) → slice_get names i ≡ Some name → number_of names name ≡ Some i
