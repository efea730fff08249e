-- Reading an expression token by token, with a stack of what waits for an operand.
use Rattle.std.specs.Prelude.{ℕ, nat_le, List, [], ◌∷◌, Option, Some, None, option_map, if◌then◌else◌}
use Rattle.eq_first.specs.declared.module.Port.{Port}
use Rattle.eq_first.specs.declared.module.Expr.{Expr}
use Rattle.eq_first.specs.declared.module.Expr.TheVariants.{Port as PortExpr}
use Rattle.eq_first.specs.declared.module.Expr.TheViews.{Not as NotExpr}
use Rattle.eq_first.specs.declared.token.Operator.{Operator}
use Rattle.eq_first.specs.declared.token.Operator.TheVariants as operators
use Rattle.eq_first.specs.declared.token.Mark.TheVariants.{Open, Close, Not, And, Xor, Or}
use Rattle.eq_first.specs.declared.expression.Pending.{Pending}
use Rattle.eq_first.specs.declared.expression.Pending.TheVariants as pending
use Rattle.eq_first.specs.Tokens.{Token, word, mark}
use Rattle.eq_first.specs.Phrases.{strength_of, join}
use Rattle.eq_first.specs.Lines.{◌>>=◌}
use Rattle.eq_first.specs.Header.{input_of}

-- how strongly it binds the operand that it waits for
abbrev pub binding : Pending → ℕ
binding pending.Open = 0
binding pending.Not = 4
binding (pending.Left o a) = strength_of o

-- the expression that it makes of its operand
abbrev pub applied : Pending → Expr → Expr
applied pending.Open x = x
applied pending.Not x = NotExpr x
applied (pending.Left o a) x = join o a x

-- An operand, if one was read, and what waits, the latest first.
pub record State : Type 0 where
  pub operand : Option Expr
  pub stack : List Pending

-- all that binds at least so strongly takes the operand
abbrev pub reduce : ℕ → Expr → List Pending → Expr × List Pending
reduce level x [] = (x, [])
reduce level x (p ∷ ps) = if nat_le level (binding p) then reduce level (applied p x) ps else (x, p ∷ ps)

abbrev pub wanted : List Pending → State
wanted ps = record { operand = None; stack = ps }

abbrev pub found : Expr → List Pending → State
found x ps = record { operand = Some x; stack = ps }

-- an operand, or what stands before one
unfoldable pub begin_at : List Port → List Pending → Token → Option State
begin_at ports ps (word w) = option_map (λ n. found (PortExpr n) ps) (input_of ports w)
begin_at ports ps (mark Not) = Some (wanted (pending.Not ∷ ps))
begin_at ports ps (mark Open) = Some (wanted (pending.Open ∷ ps))
begin_at ports ps _ = None

unfoldable pub operate : Operator → Expr → List Pending → State
operate o x ps = let r = reduce (strength_of o) x ps in wanted (pending.Left o r.0 ∷ r.1)

abbrev pub closed : Expr → List Pending → Option State
closed x (pending.Open ∷ ps) = Some (found x ps)
closed x _ = None

unfoldable pub close : Expr → List Pending → Option State
close x ps = let r = reduce 1 x ps in closed r.0 r.1

-- what stands behind an operand
unfoldable pub follow_at : Expr → List Pending → Token → Option State
follow_at x ps (mark And) = Some (operate operators.And x ps)
follow_at x ps (mark Xor) = Some (operate operators.Xor x ps)
follow_at x ps (mark Or) = Some (operate operators.Or x ps)
follow_at x ps (mark Close) = close x ps
follow_at x ps _ = None

abbrev pub step_from : List Port → Option Expr → List Pending → Token → Option State
step_from ports None ps t = begin_at ports ps t
step_from ports (Some x) ps t = follow_at x ps t

unfoldable pub step : List Port → State → Token → Option State
step ports s t = step_from ports s.operand s.stack t

abbrev pub whole : Expr × List Pending → Option Expr
whole (x, []) = Some x
whole (x, p ∷ ps) = None

abbrev pub ended : Option Expr → List Pending → Option Expr
ended None ps = None
ended (Some x) ps = whole (reduce 1 x ps)

unfoldable pub finish : State → Option Expr
finish s = ended s.operand s.stack

unfoldable pub run : List Port → State → List Token → Option Expr
run ports s [] = finish s
run ports s (t ∷ ts) = step ports s t >>= λ next. run ports next ts
