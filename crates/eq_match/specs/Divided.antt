-- Lists of positions that divide what is held.
use Rattle.std.specs.Prelude.{◌≡◌, ℕ, ◌<◌, ◌↔◌, ◌==◌, Bool, true, List, [], length, slice_index_or}
use Rattle.std.specs.List.{list_any}
use Rattle.eq_match.specs.declared.types.Pair.{Pair}
use Rattle.eq_match.specs.Classes.{Together}
use Rattle.eq_match.specs.Groups.{is_held}

abbrev pub has : ℕ → List ℕ → Bool
has i list = list_any (λ j. j == i) list

-- list g, empty beyond the last
abbrev pub list_at : List (List ℕ) → ℕ → List ℕ
list_at lists g = slice_index_or lists g []

-- each held position stands in exactly one list, with those that stand together with it, and no list is empty
pub record AreDivided (n : ℕ) (held : ℕ → Bool) (together : Together) (lists : List (List ℕ)) : Type 0 where
  pub in_one : (i : ℕ) → i < n → held i ≡ true → (g : ℕ) × (g < length lists) × (has i (list_at lists g) ≡ true) ×
      ((h : ℕ) → has i (list_at lists h) ≡ true → h ≡ g)
  pub inside : (g i : ℕ) → has i (list_at lists g) ≡ true → (i < n) × (held i ≡ true)
  pub some : (g : ℕ) → g < length lists → (i : ℕ) × (has i (list_at lists g) ≡ true)
  pub with_all : (g i j : ℕ) → has i (list_at lists g) ≡ true →
      (has j (list_at lists g) ≡ true) ↔ ((j < n) × (held j ≡ true) × (together i j ≡ true))

-- lists of positions that are held, none of which stands in two lists
pub record AreApart (pairs : List Pair) (lists : List (List ℕ)) : Type 0 where
  pub held : (g i : ℕ) → has i (list_at lists g) ≡ true → (i < length pairs) × (is_held pairs i ≡ true)
  pub once : (g h i : ℕ) → has i (list_at lists g) ≡ true → has i (list_at lists h) ≡ true → g ≡ h
