-- The text of a formula (DIMACS CNF, as of the satisfiability challenge of 1993, without comments and with one clause a line).
use Rattle.std.specs.Prelude.{◌≡◌, ◌≢◌, ℕ, ◌+◌, ◌-◌, ◌^◌, ◌<◌, ◌≤◌, min, List, [], ◌∷◌, ◌++◌, length, All, codes}
use Rattle.std.specs.Fmt.{decimal}
use Rattle.std.specs.List.{flat_map}
use Rattle.eq_proof.specs.Literal.{Literal}
use Rattle.eq_proof.specs.Text.{clause_words, IsClauseUpTo, IsFirstBadLine}

-- `p cnf VARS COUNT`
abbrev pub header_line : ℕ → ℕ → List ℕ
header_line vars count = codes "p cnf " ++ (decimal vars ++ 32 ∷ (decimal count ++ 10 ∷ []))

-- a clause's words
abbrev pub clause_line : List Literal → List ℕ
clause_line clause = clause_words clause ++ 10 ∷ []

-- the header, and then a line for each clause
abbrev pub dimacs_text : ℕ → List (List Literal) → List ℕ
dimacs_text vars clauses = header_line vars (length clauses) ++ flat_map clause_line clauses

-- the highest variable that a literal may have
abbrev pub highest_of : ℕ → ℕ
highest_of vars = min vars (2 ^ 31 - 1)

-- numbers fit their types, and no literal's variable is above the header's
pub record IsFormula (vars : ℕ) (clauses : List (List Literal)) : Type 0 where
  pub vars_fit : vars < 2 ^ 32
  pub count_fits : length clauses < 2 ^ 64
  pub clauses_fit : All (IsClauseUpTo (highest_of vars)) clauses

-- the texts of formulas
abbrev pub IsDimacs : List ℕ → Type 0
IsDimacs text = (vars : ℕ) × (clauses : List (List Literal)) × IsFormula vars clauses × (text ≡ dimacs_text vars clauses)

-- a text has one first bad line at most
abbrev pub OneBadLine : Type 0
OneBadLine = (text : List ℕ) (m n : ℕ) → IsFirstBadLine IsDimacs text m → IsFirstBadLine IsDimacs text n → m ≡ n

-- behind so many clauses stands what is in no text of this count: before the last no line of a clause, behind it any byte
pub record IsOff (most count done : ℕ) (rest : List ℕ) : Type 0 where
  pub no_clause : done < count → (clause : List Literal) (more : List ℕ) → IsClauseUpTo most clause → rest ≢ clause_line clause ++ more
  pub too_many : count ≤ done → rest ≢ []

-- the lines behind a header are those of some clauses, up to this line
pub record IsStop (most count : ℕ) (text : List ℕ) (line : ℕ) : Type 0 where
  pub clauses : List (List Literal)
  pub rest : List ℕ
  pub parts : text ≡ flat_map clause_line clauses ++ rest
  pub line_is : line ≡ length clauses + 2
  pub few : length clauses ≤ count
  pub fits : All (IsClauseUpTo most) clauses
  pub off : IsOff most count (length clauses) rest
