-- What single words have to be.
use Rattle.std.specs.Prelude.{◌≡◌, ◌≢◌, ℕ, ◌+◌, ◌*◌, ◌-◌, ◌≤◌, Bool, ◌||◌, ◌&&◌, ◌==◌, nat_le, if◌then◌else◌, List, [], ◌∷◌, length, drop, fold, slice_index, slice_index_or}
use Rattle.std.specs.Fmt.{decimal}
use Rattle.std.specs.List.{AllPass}
use Rattle.eq_names.specs.Patterns.{IsPattern, HasWilds}
use Rattle.eq_names.specs.Templates.{IsTemplate}
use Rattle.eq_config.specs.declared.limits.TheConstants.{MOST_IN_WORD}

-- a word has at most 1,024 bytes
abbrev pub IsShort : List ℕ → Type 0
IsShort word = length word ≤ MOST_IN_WORD

-- a file word doesn't begin with `-`
abbrev pub IsFileWord : List ℕ → Type 0
IsFileWord word = IsShort word × (slice_index word 0 ≢ 45)

-- the name of a strategy has letters, digits, `_` and `-`
abbrev pub is_strategy_byte : ℕ → Bool
is_strategy_byte b = (nat_le 97 b && nat_le b 122) || ((nat_le 65 b && nat_le b 90) || ((nat_le 48 b && nat_le b 57) || ((b == 95) || (b == 45))))

abbrev pub IsStrategyWord : List ℕ → Type 0
IsStrategyWord word = IsShort word × AllPass is_strategy_byte word

abbrev pub IsPatternWord : List ℕ → Type 0
IsPatternWord word = IsShort word × IsPattern word

-- the text is a template for a pattern with so many wilds as this one has
abbrev pub Fills : List ℕ → List ℕ → Type 0
Fills pattern text = (wilds : ℕ) × HasWilds pattern wilds × IsTemplate text wilds

abbrev pub IsTemplateWord : List ℕ → List ℕ → Type 0
IsTemplateWord pattern word = IsShort word × Fills pattern word

-- in a match line a `~` directly before the template makes inverted pairs
abbrev pub is_inverted : List ℕ → Bool
is_inverted word = slice_index word 0 == 126

abbrev pub unsigned : List ℕ → List ℕ
unsigned word = if is_inverted word then drop 1 word else word

abbrev pub IsSignedWord : List ℕ → List ℕ → Type 0
IsSignedWord pattern word = IsShort word × Fills pattern (unsigned word)

-- the value of decimal digits
abbrev pub value_of : List ℕ → ℕ
value_of digits = fold (λ value digit. 10 * value + (digit - 48)) 0 digits

-- the word is a number from 1 up to a limit, in decimal without leading zeros
pub record IsNumber (most : ℕ) (word : List ℕ) : Type 0 where
  pub spelled : word ≡ decimal (value_of word)
  pub some : 1 ≤ value_of word
  pub within : value_of word ≤ most

-- the word at a place
abbrev pub word_at : List (List ℕ) → ℕ → List ℕ
word_at words at = slice_index_or words at []

-- the words are one, or two, of which something holds
abbrev pub OneWord : (List ℕ → Type 0) → List (List ℕ) → Type 0
OneWord P (word ∷ []) = P word
OneWord P _ = ⊥

abbrev pub TwoWords : (List ℕ → List ℕ → Type 0) → List (List ℕ) → Type 0
TwoWords P (first ∷ second ∷ []) = P first second
TwoWords P _ = ⊥
