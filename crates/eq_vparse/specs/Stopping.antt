-- Where the reading of an expression stops.
use Rattle.std.specs.Prelude.{◌≡◌, ℕ, suc, true, List, [], ◌∷◌, ◌++◌, length, ⊤}
use Rattle.eq_vlex.specs.declared.token.TokenKind.{TokenKind}
use Rattle.eq_vparse.specs.declared.stop.Stop.{Stop}
use Rattle.eq_vparse.specs.declared.stop.Stop.TheVariants as stop
use Rattle.eq_vparse.specs.Rules.{limited}
use Rattle.eq_vparse.specs.Phrases.{expr, counted_marks, is_counted}

-- the first token with which no expression goes on, with so many tokens from it to the end
pub record IsFirstWrong (marks : ℕ) (ts : List TokenKind) (left : ℕ) : Type 0 where
  pub before : List TokenKind
  pub rest : List TokenKind
  pub whole : ts ≡ before ++ rest
  pub place : length rest ≡ left
  pub front : (limited counted_marks marks expr).front before
  pub none : (t : TokenKind) (more : List TokenKind) → rest ≡ t ∷ more → ¬ expr.front (before ++ t ∷ [])

-- the counted mark that is one too many
pub record IsOneTooMany (marks : ℕ) (ts : List TokenKind) (left : ℕ) : Type 0 where
  pub before : List TokenKind
  pub mark : TokenKind
  pub rest : List TokenKind
  pub whole : ts ≡ before ++ mark ∷ rest
  pub place : suc (length rest) ≡ left
  pub front : expr.front (before ++ mark ∷ [])
  pub counted : is_counted mark ≡ true
  pub as_many : counted_marks before ≡ marks

-- what a stop says of an expression; want of memory says nothing
abbrev pub StopsExpr : ℕ → List TokenKind → Stop → Type 0
StopsExpr marks ts (stop.Syntax left) = IsFirstWrong marks ts left
StopsExpr marks ts (stop.TooDeep left) = IsOneTooMany marks ts left
StopsExpr marks ts stop.Memory = ⊤
