-- Texts by lines, and the lists of words that DIMACS and LRAT have in common.
use Rattle.std.specs.Prelude.{◌≡◌, ℕ, ◌-◌, ◌^◌, ◌<◌, ◌≤◌, ◌==◌, if◌then◌else◌, List, [], ◌∷◌, ◌++◌, slice_get, All}
use Rattle.std.specs.Fmt.{decimal}
use Rattle.std.specs.List.{flat_map}
use Rattle.eq_proof.specs.Literal.{Literal}
use Rattle.eq_proof.specs.Clause.{IsClause}

-- lines with a byte more at the front of the first
abbrev pub with_byte : ℕ → List (List ℕ) → List (List ℕ)
with_byte byte [] = (byte ∷ []) ∷ []
with_byte byte (line ∷ lines) = (byte ∷ line) ∷ lines

-- the lines of a text, each with the line feed at its end; the last may have none
abbrev pub lines_of : List ℕ → List (List ℕ)
lines_of [] = []
lines_of (byte ∷ bytes) = if byte == 10 then (10 ∷ []) ∷ lines_of bytes else with_byte byte (lines_of bytes)

-- two texts have the same lines among the first `count`, or lack the same
abbrev pub AgreeOn : ℕ → List ℕ → List ℕ → Type 0
AgreeOn count a b = (k : ℕ) → k < count → slice_get (lines_of a) k ≡ slice_get (lines_of b) k

-- a line, counted from 1, up to which no text of a grammar agrees with this text, though one does on all lines before it
pub record IsFirstBadLine (IsText : List ℕ → Type 0) (text : List ℕ) (line : ℕ) : Type 0 where
  pub begins : (good : List ℕ) × IsText good × AgreeOn (line - 1) good text
  pub breaks : (good : List ℕ) → IsText good → AgreeOn line good text → ⊥

-- words with a blank behind each
abbrev pub words : {X : Type 0} → (X → List ℕ) → List X → List ℕ
words word xs = flat_map (λ x. word x ++ 32 ∷ []) xs

-- words with a blank behind each, and the `0` that ends them
abbrev pub ended_words : {X : Type 0} → (X → List ℕ) → List X → List ℕ
ended_words word xs = words word xs ++ 48 ∷ []

-- a literal is the number of its variable, with a minus sign where it is negative
abbrev pub literal_word : Literal → List ℕ
literal_word l = if l.positive then decimal l.var else 45 ∷ decimal l.var

-- a clause is its literals in their order, and `0`
abbrev pub clause_words : List Literal → List ℕ
clause_words clause = ended_words literal_word clause

-- literals of variables from 1 to a highest one
abbrev pub IsUpTo : ℕ → Literal → Type 0
IsUpTo most l = (1 ≤ l.var) × (l.var ≤ most)

-- a clause of such literals
pub record IsClauseUpTo (most : ℕ) (clause : List Literal) : Type 0 where
  pub ordered : IsClause clause
  pub within : All (IsUpTo most) clause

-- numbers from 1 that fit 64 bits
abbrev pub IsNumber : ℕ → Type 0
IsNumber n = (1 ≤ n) × (n < 2 ^ 64)

-- numbers, and `0`
abbrev pub number_words : List ℕ → List ℕ
number_words numbers = ended_words decimal numbers
