-- Mirrors src/renaming.rt; nothing here has to be believed.
-- A `name` line, position by position.
use Rattle.std.specs.Prelude.{◌≡◌, ◌≢◌, ℕ, ◌<◌, Bool, true, false, List, [], length, Option, Some, None}
use Rattle.eq_model.specs.Frames.{values}
use Rattle.eq_net.specs.Net.{Parts, name_at}
use Rattle.eq_match.specs.declared.types.Pair.{Pair}
use Rattle.eq_match.specs.Leaders.{leader_at}
use Rattle.eq_match.specs.NetPairs.{IsFilling}
use Rattle.eq_match.specs.Pairs.{gold_net}
use Rattle.eq_part.specs.Partitions.{renamed}
use Rattle.eq_part.specs.inner.States.{name_at as given}

abbrev pub text_of : Option (List ℕ) → List ℕ
text_of None = []
text_of (Some text) = text

-- a text that is there isn't empty
abbrev pub IsText : Option (List ℕ) → Type 0
IsText None = Unit {0}
IsText (Some text) = text ≢ []

-- position j is the first chosen one with its leader, and gives it this name
pub record Gives (gold : Parts) (pairs : List Pair) (pattern template leaders : List ℕ) (chosen : ℕ → Bool) (p l : ℕ)
    (before after : Option (List ℕ)) : Type 0 where
  pub at : ℕ
  pub text : List ℕ
  pub there : at < p
  pub chosen_at : chosen at ≡ true
  pub leads : leader_at leaders at ≡ l
  pub first : (k : ℕ) → k < at → chosen k ≡ true → leader_at leaders k ≡ l → ⊥
  pub filled : IsFilling pattern template (name_at gold.nets (gold_net pairs at)) text
  pub is : after ≡ renamed before text

-- of the first p positions, the first chosen one of each leader has given it its name
pub record AreRenamed (gold : Parts) (pairs : List Pair) (pattern template leaders : List ℕ) (chosen : ℕ → Bool) (p : ℕ)
    (before : List (Option (List ℕ))) (done : List Bool) (after : List (Option (List ℕ))) : Type 0 where
  pub count : length after ≡ length before
  pub marks : length done ≡ length before
  pub given_names : (l : ℕ) → values done l ≡ true → Gives gold pairs pattern template leaders chosen p l (given before l) (given after l)
  pub none : (l : ℕ) → values done l ≡ false → (k : ℕ) → k < p → chosen k ≡ true → leader_at leaders k ≡ l → ⊥
  pub kept : (l : ℕ) → values done l ≡ false → given after l ≡ given before l
