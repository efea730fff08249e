-- Reading the token at the front of a text.
use Rattle.std.specs.Prelude.{ℕ, Bool, false, ◌&&◌, ◌||◌, ◌==◌, nat_le, List, [], ◌∷◌, map, take, drop, Option, Some, None, if◌then◌else◌}
use Rattle.std.specs.List.{prefix_len}
use Rattle.eq_first.specs.declared.token.Mark.{Mark}
use Rattle.eq_first.specs.declared.token.Mark.TheVariants.{Open, Close, Comma, Semicolon, Equals, Not, And, Xor, Or}
use Rattle.eq_first.specs.declared.token.Lexeme.{Lexeme}
use Rattle.eq_first.specs.declared.token.Lexeme.TheVariants as lexemes
use Rattle.eq_first.specs.Tokens.{Token, word, mark}
use Rattle.eq_first.specs.Lines.{◌>>=◌}

-- a token without where it lies in memory
abbrev pub token_of : Lexeme → Token
token_of (lexemes.Word w) = word w.now
token_of (lexemes.Mark m) = mark m

abbrev pub tokens_in : List Lexeme → List Token
tokens_in ls = map token_of ls

abbrev pub is_space : ℕ → Bool
is_space b = (b == 32) || ((b == 9) || ((b == 10) || ((b == 12) || (b == 13))))

abbrev pub begins_word : ℕ → Bool
begins_word b = (nat_le 65 b && nat_le b 90) || ((nat_le 97 b && nat_le b 122) || (b == 95))

abbrev pub is_word_byte : ℕ → Bool
is_word_byte b = begins_word b || ((nat_le 48 b && nat_le b 57) || (b == 36))

unfoldable pub mark_at : ℕ → Option Mark
mark_at b =
    if b == 40 then Some Open else if b == 41 then Some Close else if b == 44 then Some Comma else if b == 59 then Some Semicolon else if b == 61 then Some Equals
    else if b == 126 then Some Not else if b == 38 then Some And else if b == 94 then Some Xor else if b == 124 then Some Or else None

-- what the text has behind white space
unfoldable pub skip : List ℕ → List ℕ
skip text = drop (prefix_len is_space text) text

-- the front of `^~`
abbrev pub is_split : Mark → List ℕ → Bool
is_split Xor (b ∷ bs) = b == 126
is_split _ _ = false

unfoldable pub word_at : List ℕ → Token × List ℕ
word_at text = (word (take (prefix_len is_word_byte text) text), drop (prefix_len is_word_byte text) text)

unfoldable pub token_at : List ℕ → Option (Token × List ℕ)
token_at [] = None
token_at (b ∷ bs) = if begins_word b then Some (word_at (b ∷ bs)) else (mark_at b >>= λ m. if is_split m bs then None else Some (mark m, bs))
