-- What the parser answers.
use Rattle.std.specs.Prelude.{◌≡◌, ◌⊎◌, ℕ, ◌≤◌, ◌-◌, List, length, Result, Err, ⊤}
use Rattle.eq_vlex.specs.declared.token.TokenKind.{TokenKind}
use Rattle.eq_vparse.specs.declared.stop.ParseErr.{ParseErr}
use Rattle.eq_vparse.specs.declared.stop.ParseErr.TheVariants as error
use Rattle.eq_vparse.specs.declared.stop.Stop.{Stop}
use Rattle.eq_vparse.specs.declared.stop.Stop.TheVariants as stop
use Rattle.eq_vparse.specs.declared.tree.Source.{Source}
use Rattle.eq_vparse.specs.Limits.{Limits}
use Rattle.eq_vparse.specs.Reading.{stopped}
use Rattle.eq_vparse.specs.Grammar.{HasTreeWithin}
use Rattle.eq_vparse.specs.SourceReading.{source_at}

-- no tree within the limits, and a place that is one of the tokens or their end
pub record HasNone (l : Limits) (ts : List TokenKind) (token : ℕ) : Type 0 where
  pub none : (s : Source) → ¬ HasTreeWithin l ts s
  pub place : token ≤ length ts

-- what a refusal says; want of memory says nothing
abbrev pub Refuses : Limits → List TokenKind → ParseErr → Type 0
Refuses l ts (error.Syntax token) = HasNone l ts token
Refuses l ts (error.TooDeep token) = HasNone l ts token
Refuses l ts error.Memory = ⊤

-- this answer, but for want of memory
abbrev pub IsOrNoMemory : Result Source ParseErr → Result Source ParseErr → Type 0
IsOrNoMemory result answer = (result ≡ answer) ⊎ (result ≡ Err error.Memory)

-- the error of a stop in a list of so many tokens: the token is the first of those that are left
abbrev pub located : Stop → ℕ → ParseErr → Type 0
located (stop.Syntax left) count (error.Syntax token) = token ≡ count - left
located (stop.TooDeep left) count (error.TooDeep token) = token ≡ count - left
located stop.Memory count error.Memory = ⊤
located _ count _ = ⊥

-- the token that a refusal names is the one at which the reading stops
abbrev pub Stopped : Limits → List TokenKind → ParseErr → Type 0
Stopped l ts (error.Syntax token) = (left : ℕ) × (source_at l ts ≡ stopped (stop.Syntax left)) × (token ≡ length ts - left)
Stopped l ts (error.TooDeep token) = (left : ℕ) × (source_at l ts ≡ stopped (stop.TooDeep left)) × (token ≡ length ts - left)
Stopped l ts error.Memory = ⊤
