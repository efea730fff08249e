-- Reading a statement. The statements in it are read by a reader of their own, which has one level less.
use Rattle.std.specs.Prelude.{ℕ, zero, suc, Bool, ◌||◌, List, [], ◌∷◌, ◌++◌, length, Option, Some, None, if◌then◌else◌}
use Rattle.eq_vlex.specs.declared.key.Key.TheVariants.{Begin, End, If as IfWord, Else}
use Rattle.eq_vlex.specs.declared.mark.Mark.TheVariants.{Semicolon, LessEqual, LeftParen, RightParen}
use Rattle.eq_vlex.specs.declared.token.TokenKind.{TokenKind}
use Rattle.eq_vparse.specs.declared.stop.Stop.TheVariants.{TooDeep}
use Rattle.eq_vparse.specs.declared.tree.Expr.{Expr}
use Rattle.eq_vparse.specs.declared.tree.Stmt.{Stmt}
use Rattle.eq_vparse.specs.declared.tree.Stmt.TheVariants.{Empty, Set}
use Rattle.eq_vparse.specs.declared.tree.Stmt.TheViews.{Block, If}
use Rattle.eq_vparse.specs.Tests.{is_mark, is_key}
use Rattle.eq_vparse.specs.Reading.{Reading, stopped, wrong, ◌>>=◌, done, takes, takes_key, expect, expect_key}
use Rattle.eq_vparse.specs.Looping.{repeat_until}
use Rattle.eq_vparse.specs.Limits.{Limits}
use Rattle.eq_vparse.specs.Machine.{expr_at}
use Rattle.eq_vparse.specs.TargetReading.{begins_target, target_at}

-- a statement may begin here
unfoldable pub begins_stmt : List TokenKind → Bool
begins_stmt ts = is_mark Semicolon ts || is_key Begin ts || is_key IfWord ts || begins_target ts

-- no statement may stand here, since too many hold it
unfoldable pub too_deep_at : List TokenKind → Reading Stmt
too_deep_at ts = if begins_stmt ts then stopped (TooDeep (length ts)) else wrong ts

unfoldable pub set_at : Limits → List TokenKind → Reading Stmt
set_at l = do
  t ← target_at l.marks
  _ ← expect LessEqual
  e ← expr_at l.marks
  _ ← expect Semicolon
  done (Set t e)

-- `(condition)` behind `if`
unfoldable pub condition_at : Limits → List TokenKind → Reading Expr
condition_at l = do
  _ ← expect LeftParen
  c ← expr_at l.marks
  _ ← expect RightParen
  done c

-- how the statements in a statement are read
abbrev pub Inner : Type 0
Inner = List TokenKind → Reading Stmt

-- behind the statement of an `if`
unfoldable pub otherwise_at : Inner → List TokenKind → Reading (Option Stmt)
otherwise_at inner = do
  more ← takes_key Else
  if more then (inner >>= λ t. done (Some t)) else done None

abbrev pub branching : Expr → Stmt → Option Stmt → Stmt
branching c s (Some t) = If c s (Some t)
branching c s None = If c s None

-- behind `if`
unfoldable pub branches_at : Limits → Inner → List TokenKind → Reading Stmt
branches_at l inner = do
  c ← condition_at l
  s ← inner
  t ← otherwise_at inner
  done (branching c s t)

-- one more statement of a block
unfoldable pub more_at : Inner → List Stmt → List TokenKind → Reading (List Stmt)
more_at inner body = inner >>= λ s. done (body ++ s ∷ [])

-- the statements of a block, up to its `end`
unfoldable pub body_at : Inner → List TokenKind → Reading (List Stmt)
body_at inner ts = repeat_until (is_key End) (more_at inner) [] ts

-- behind `begin`
unfoldable pub block_at : Inner → List TokenKind → Reading Stmt
block_at inner = do
  body ← body_at inner
  _ ← expect_key End
  done (Block body)

-- a statement in which others are read so
unfoldable pub stmt_with : Limits → Inner → List TokenKind → Reading Stmt
stmt_with l inner = do
  empty ← takes Semicolon
  if empty then done Empty else (do
    block ← takes_key Begin
    if block then block_at inner else (do
      branches ← takes_key IfWord
      if branches then branches_at l inner else set_at l))

-- at most so many statements in one another
unfoldable pub stmt_at : Limits → ℕ → List TokenKind → Reading Stmt
stmt_at l zero = too_deep_at
stmt_at l (suc n) = stmt_with l (stmt_at l n)
