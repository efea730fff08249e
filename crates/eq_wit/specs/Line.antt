-- Lines of words, of which it is told which are numbers.
use Rattle.std.specs.Prelude.{◌≡◌, ℕ, List, [], ◌∷◌, ◌++◌}
use Rattle.std.specs.Fmt.{decimal}
use Rattle.std.specs.List.{flat_map}
use Rattle.eq_names.specs.Name.{IsName}

-- what stands between blanks: a word, or a number, as it is written
pub data Field : Type 0 where
  Word : List ℕ → Field
  Number : List ℕ → Field

abbrev pub field_text : Field → List ℕ
field_text (Word text) = text
field_text (Number text) = text

-- a number in decimal without leading zeros
abbrev pub number : ℕ → Field
number n = Number (decimal n)

abbrev pub Line : Type 0
Line = List Field

-- further fields, each with a blank before it
abbrev pub spaced_fields : List Field → List ℕ
spaced_fields fields = flat_map (λ field. 32 ∷ field_text field) fields

-- one blank between two fields, and a line feed at the end
abbrev pub line_text : Line → List ℕ
line_text [] = 10 ∷ []
line_text (field ∷ fields) = field_text field ++ (spaced_fields fields ++ 10 ∷ [])

abbrev pub lines_text : List Line → List ℕ
lines_text lines = flat_map line_text lines

-- these words have the form of the line: the same where it has words, and any words of printed bytes where it has numbers
abbrev pub HasForm : Line → List (List ℕ) → Type 0
HasForm [] [] = Unit {0}
HasForm (Word text ∷ fields) (word ∷ words) = (word ≡ text) × HasForm fields words
HasForm (Number text ∷ fields) (word ∷ words) = IsName word × HasForm fields words
HasForm _ _ = ⊥
