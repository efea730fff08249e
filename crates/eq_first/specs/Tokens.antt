-- The tokens of a design of the first form (IEEE 1364-2005, 3.1 to 3.7): words and marks of one byte.
use Rattle.std.specs.Prelude.{◌≡◌, ◌≢◌, ℕ, ◌≤◌, ◌⊎◌, List, [], ◌∷◌, ◌++◌, All}
use Rattle.eq_first.specs.declared.token.Mark.{Mark}
use Rattle.eq_first.specs.declared.token.Mark.TheVariants.{Open, Close, Comma, Semicolon, Equals, Not, And, Xor, Or}

pub data Token : Type 0 where
  word : List ℕ → Token
  mark : Mark → Token

-- space, tab, line feed, form feed, carriage return
abbrev pub IsSpace : ℕ → Type 0
IsSpace b = (b ≡ 32) ⊎ (b ≡ 9) ⊎ (b ≡ 10) ⊎ (b ≡ 12) ⊎ (b ≡ 13)

-- a letter or `_`
abbrev pub BeginsWord : ℕ → Type 0
BeginsWord b = ((65 ≤ b) × (b ≤ 90)) ⊎ ((97 ≤ b) × (b ≤ 122)) ⊎ (b ≡ 95)

-- the same, a digit or `$`
abbrev pub IsWordByte : ℕ → Type 0
IsWordByte b = BeginsWord b ⊎ ((48 ≤ b) × (b ≤ 57)) ⊎ (b ≡ 36)

abbrev pub IsWord : List ℕ → Type 0
IsWord [] = ⊥
IsWord (b ∷ bs) = BeginsWord b × All IsWordByte bs

-- ( ) , ; = ~ & ^ |
abbrev pub byte_of : Mark → ℕ
byte_of Open = 40
byte_of Close = 41
byte_of Comma = 44
byte_of Semicolon = 59
byte_of Equals = 61
byte_of Not = 126
byte_of And = 38
byte_of Xor = 94
byte_of Or = 124

abbrev pub spelled : Token → List ℕ
spelled (word w) = w
spelled (mark m) = byte_of m ∷ []

abbrev pub IsToken : Token → Type 0
IsToken (word w) = IsWord w
IsToken (mark m) = Unit {0}

-- The token ends where these bytes follow. A word runs to its last byte. A `^` before a `~` is the front of `^~`, which is another token.
abbrev pub EndsBefore : Token → List ℕ → Type 0
EndsBefore t [] = Unit {0}
EndsBefore (word w) (b ∷ rest) = ¬ IsWordByte b
EndsBefore (mark Xor) (b ∷ rest) = b ≢ 126
EndsBefore (mark m) (b ∷ rest) = Unit {0}

-- the text is white space, this token, and the rest
pub record Begins (text : List ℕ) (t : Token) (rest : List ℕ) : Type 0 where
  pub gap : List ℕ
  pub space : All IsSpace gap
  pub token : IsToken t
  pub ends : EndsBefore t rest
  pub parts : text ≡ gap ++ (spelled t ++ rest)

-- The text has these tokens. White space may stand before, between and behind them.
abbrev pub HasTokens : List ℕ → List Token → Type 0
HasTokens text [] = All IsSpace text
HasTokens text (t ∷ ts) = (rest : List ℕ) × Begins text t rest × HasTokens rest ts
