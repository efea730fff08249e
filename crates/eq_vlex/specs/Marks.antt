-- Marks, the longest first (IEEE 1364-2005, 5.1).
use Rattle.std.specs.Prelude.{◌≡◌, ◌≤◌, true, ℕ, if◌then◌else◌, List, [], ◌∷◌, take, length, Option, Some, None, codes}
use Rattle.std.specs.List.{AllByRecursion}
use Rattle.std.specs.Str.{bytes_eq}
use Rattle.eq_vlex.specs.declared.mark.Mark.{Mark}
use Rattle.eq_vlex.specs.declared.mark.Mark.TheVariants as mark

-- the marks of three bytes, then those of two, then those of one
abbrev pub marks : List (List ℕ × Mark)
marks =
    (codes "===", mark.CaseEqual) ∷ (codes "!==", mark.CaseNotEqual)
    ∷ (codes "==", mark.Equal) ∷ (codes "!=", mark.NotEqual) ∷ (codes "<=", mark.LessEqual) ∷ (codes ">=", mark.GreaterEqual)
    ∷ (codes "<<", mark.ShiftLeft) ∷ (codes ">>", mark.ShiftRight) ∷ (codes "&&", mark.LogicalAnd) ∷ (codes "||", mark.LogicalOr)
    ∷ (codes "~&", mark.TildeAnd) ∷ (codes "~|", mark.TildeOr) ∷ (codes "~^", mark.TildeXor) ∷ (codes "^~", mark.XorTilde)
    ∷ (codes "(", mark.LeftParen) ∷ (codes ")", mark.RightParen) ∷ (codes "[", mark.LeftBracket) ∷ (codes "]", mark.RightBracket)
    ∷ (codes "{", mark.LeftBrace) ∷ (codes "}", mark.RightBrace) ∷ (codes ";", mark.Semicolon) ∷ (codes ",", mark.Comma)
    ∷ (codes ".", mark.Dot) ∷ (codes ":", mark.Colon) ∷ (codes "@", mark.At) ∷ (codes "=", mark.Assign) ∷ (codes "?", mark.Question)
    ∷ (codes "~", mark.Tilde) ∷ (codes "!", mark.Exclamation) ∷ (codes "&", mark.And) ∷ (codes "|", mark.Or) ∷ (codes "^", mark.Xor)
    ∷ (codes "+", mark.Plus) ∷ (codes "-", mark.Minus) ∷ (codes "<", mark.Less) ∷ (codes ">", mark.Greater) ∷ []

-- the first row whose bytes begin the text: its mark, and how many bytes it has
abbrev pub first_row : {A : Type 0} → List (List ℕ × A) → List ℕ → Option (A × ℕ)
first_row [] text = None
first_row (row ∷ rows) text = if bytes_eq row.0 (take (length row.0) text) then Some (row.1, length row.0) else first_row rows text

-- the longest mark that the text begins with
unfoldable pub mark_at : List ℕ → Option (Mark × ℕ)
mark_at text = first_row marks text

-- the text begins with these bytes
abbrev pub Begins : List ℕ → List ℕ → Type 0
Begins text bytes = bytes_eq bytes (take (length bytes) text) ≡ true

-- no mark that the text begins with is longer
abbrev pub IsLongest : List ℕ → ℕ → Type 0
IsLongest text len = AllByRecursion (λ row. Begins text row.0 → length row.0 ≤ len) marks
