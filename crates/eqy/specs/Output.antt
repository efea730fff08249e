-- What a call added to the output.
use Rattle.std.specs.Prelude.{◌≡◌, List, ◌++◌, ℕ, Option}
use Rattle.std.specs.Option.{option_map}

-- this text
abbrev pub Adds : Option (List ℕ) → Option (List ℕ) → List ℕ → Type 0
Adds old new text = new ≡ option_map (λ bytes. bytes ++ text) old

-- a front of this text: nothing, or all of it, or less
abbrev pub AddsFront : Option (List ℕ) → Option (List ℕ) → List ℕ → Type 0
AddsFront old new text = (front : List ℕ) × (rest : List ℕ) × (front ++ rest ≡ text) × Adds old new front
