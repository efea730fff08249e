-- The text of a log (LRAT: Cruz-Filipe, Heule, Hunt, Kaufmann, Schneider-Kamp, 'Efficient Certified RAT Verification', 2017), without deletion and without RAT steps.
use Rattle.std.specs.Prelude.{◌≡◌, ℕ, ◌+◌, ◌-◌, ◌^◌, ◌<◌, ◌≤◌, suc, List, [], ◌∷◌, ◌++◌, length, All}
use Rattle.std.specs.Fmt.{decimal}
use Rattle.eq_proof.specs.Inference.{Inference}
use Rattle.eq_proof.specs.Text.{clause_words, number_words, IsClauseUpTo, IsNumber, IsFirstBadLine}

-- a step's number, its clause, its antecedents
abbrev pub step_line : ℕ → Inference → List ℕ
step_line n step = decimal n ++ 32 ∷ (clause_words step.clause ++ 32 ∷ (number_words step.ants ++ 10 ∷ []))

-- a line for each step, numbered from the first
abbrev pub lrat_text : ℕ → List Inference → List ℕ
lrat_text n [] = []
lrat_text n (step ∷ log) = step_line n step ++ lrat_text (suc n) log

-- the numbers of a step fit their types
pub record IsStep (step : Inference) : Type 0 where
  pub clause : IsClauseUpTo (2 ^ 31 - 1) step.clause
  pub ants : All IsNumber step.ants

-- the numbers of a log's steps fit their type, and so do those in them
pub record IsNumbered (first : ℕ) (log : List Inference) : Type 0 where
  pub last_fits : first + length log ≤ 2 ^ 64
  pub few : length log < 2 ^ 32
  pub steps : All IsStep log

-- the texts of logs whose first step has this number
abbrev pub IsLrat : ℕ → List ℕ → Type 0
IsLrat first text = (log : List Inference) × IsNumbered first log × (text ≡ lrat_text first log)

-- a text has one first bad line at most
abbrev pub OneBadLine : Type 0
OneBadLine = (first : ℕ) (text : List ℕ) (m n : ℕ) → IsFirstBadLine (IsLrat first) text m → IsFirstBadLine (IsLrat first) text n → m ≡ n
