-- A name has a number exactly where it is among the names.
use Rattle.std.proofs.Common.{◌≡◌, ℕ, ◌+◌, List, [], ◌∷◌, Bool, true, false, cond, ◌||◌, Option, Some, refl, ap, ◌∙◌}
use Rattle.std.specs.Prelude.{is_some, position}
use Rattle.std.specs.List.{list_any, position_from}
use Rattle.std.specs.Str.{bytes_eq}
use Rattle.std.proofs.lemmas.Iterator.Adapters.{position_from-zero}
use Rattle.eq_names.specs.Tables.{number_of}
use Rattle.eq_verilog.specs.Trees.{Name}
use Rattle.eq_verilog.specs.Declarations.{has}

module _ {A : Type 0} (p : A → Bool) where
  at_first : (i : ℕ) (xs : List A) (b : Bool) → is_some (position_from p (i + 1) xs) ≡ list_any p xs →
      is_some (cond b (Some i) (position_from p (i + 1) xs)) ≡ (b || list_any p xs)
  at_first i xs true behind = refl
  at_first i xs false behind = behind

  found_from : (i : ℕ) (xs : List A) → is_some (position_from p i xs) ≡ list_any p xs
  found_from i [] = refl
  found_from i (x ∷ xs) = at_first i xs (p x) (found_from (i + 1) xs)

  pub found_any : (xs : List A) → is_some (position p xs) ≡ list_any p xs
  found_any xs = ap (λ (o : Option ℕ). is_some o) (position_from-zero p xs) ∙ found_from 0 xs

-- a name has a number exactly where it is among the names
pub found_has : (names : List Name) (n : Name) → is_some (number_of names n) ≡ has names n
found_has names n = found_any (bytes_eq n) names
