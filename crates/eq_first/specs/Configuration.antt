-- The first form of a configuration.
use Rattle.std.specs.Prelude.{◌≡◌, ◌≢◌, ℕ, ◌≤◌, ◌⊎◌, List, [], ◌∷◌, ◌++◌, length, All, Some, slice_get, codes, decimal}
use Rattle.eq_names.specs.Name.{IsName}
use Rattle.eq_first.specs.declared.job.Side.{Side}
use Rattle.eq_first.specs.declared.job.Job.{Job}

-- each line with a line feed at its end, one after the other
abbrev pub text_of : List (List ℕ) → List ℕ
text_of [] = []
text_of (line ∷ lines) = line ++ 10 ∷ text_of lines

-- the nine lines that ask for the job
abbrev pub lines_of : Job → List (List ℕ)
lines_of job =
    codes "[gold]" ∷ (codes "read_verilog " ++ job.gold.file) ∷ (codes "prep -top " ++ job.gold.top)
    ∷ codes "[gate]" ∷ (codes "read_verilog " ++ job.gate.file) ∷ (codes "prep -top " ++ job.gate.top)
    ∷ (codes "[strategy " ++ job.strategy ++ codes "]") ∷ codes "use sat" ∷ (codes "depth " ++ decimal job.depth) ∷ []

-- a name of at most 1,024 bytes
abbrev pub IsShort : List ℕ → Type 0
IsShort name = IsName name × (length name ≤ 1024)

-- a letter, a digit, `_` or `-`
abbrev pub IsStrategyByte : ℕ → Type 0
IsStrategyByte b = ((48 ≤ b) × (b ≤ 57)) ⊎ ((65 ≤ b) × (b ≤ 90)) ⊎ ((97 ≤ b) × (b ≤ 122)) ⊎ (b ≡ 95) ⊎ (b ≡ 45)

-- a file's name, which doesn't begin with `-`, and a module's
pub record IsSide (side : Side) : Type 0 where
  pub file : IsShort side.file
  pub no_dash : slice_get side.file 0 ≢ Some 45
  pub top : IsShort side.top

-- the text is the configuration of the first form that asks for this job
pub record IsJob (text : List ℕ) (job : Job) : Type 0 where
  pub gold : IsSide job.gold
  pub gate : IsSide job.gate
  pub strategy : All IsStrategyByte job.strategy
  pub named : job.strategy ≢ []
  pub short : length job.strategy ≤ 1024
  pub positive : 1 ≤ job.depth
  pub at_most : job.depth ≤ 64
  pub lines : text ≡ text_of (lines_of job)
