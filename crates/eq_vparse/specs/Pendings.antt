-- What waits for an operand, and how it takes one.
use Rattle.std.specs.Prelude.{ℕ, nat_le, List, [], ◌∷◌, if◌then◌else◌}
use Rattle.eq_vparse.specs.declared.tree.Expr.{Expr}
use Rattle.eq_vparse.specs.declared.tree.Expr.TheViews.{Unary, Binary, Cond}
use Rattle.eq_vparse.specs.declared.pending.Pending.{Pending}
use Rattle.eq_vparse.specs.declared.pending.Pending.TheVariants.{Group, Operator, Left, Choice, Otherwise, Parts, Repeated}
use Rattle.eq_vparse.specs.Operators.{strength_of}

-- How strongly it binds the operand that it waits for. What is open binds nothing.
abbrev pub binding : Pending → ℕ
binding Group = 0
binding (Operator o) = 11
binding (Left o a) = strength_of o
binding (Choice c) = 0
binding (Otherwise c a) = 1
binding (Parts parts) = 0
binding (Repeated n parts) = 0

-- the expression that it makes of its operand
abbrev pub applied : Pending → Expr → Expr
applied Group x = x
applied (Operator o) x = Unary o x
applied (Left o a) x = Binary o a x
applied (Choice c) x = x
applied (Otherwise c a) x = Cond c a x
applied (Parts parts) x = x
applied (Repeated n parts) x = x

-- all that binds at least so strongly takes the operand; the latest stands first
abbrev pub reduce : ℕ → Expr → List Pending → Expr × List Pending
reduce level x [] = (x, [])
reduce level x (p ∷ ps) = if nat_le level (binding p) then reduce level (applied p x) ps else (x, p ∷ ps)
