-- What an expression of one bit is worth, and which ports it names (IEEE 1364-2005, 5.1.10, at two values).
use Rattle.std.specs.Prelude.{ℕ, Bool, not, ◌&&◌, ◌||◌, List, [], ◌∷◌, ◌++◌, ◌+◌}
use Rattle.eq_first.specs.declared.module.Expr.{Expr}
use Rattle.eq_first.specs.declared.module.Expr.TheOpen.{Expr-F, Port, Not, And, Xor, Or}
use Rattle.eq_first.specs.declared.module.Expr.TheFolds.{fold-Expr}

-- exactly one of the two
abbrev pub differ : Bool → Bool → Bool
differ a b = (a || b) && not (a && b)

abbrev pub value_layer : Expr-F ((ℕ → Bool) → Bool) → (ℕ → Bool) → Bool
value_layer (Port n) v = v n
value_layer (Not a) v = not (a v)
value_layer (And a b) v = a v && b v
value_layer (Xor a b) v = differ (a v) (b v)
value_layer (Or a b) v = a v || b v

-- the value of the expression where port n has the value v n
abbrev pub value : Expr → (ℕ → Bool) → Bool
value = fold-Expr ((ℕ → Bool) → Bool) value_layer

abbrev pub reads_layer : Expr-F (List ℕ) → List ℕ
reads_layer (Port n) = n ∷ []
reads_layer (Not a) = a
reads_layer (And a b) = a ++ b
reads_layer (Xor a b) = a ++ b
reads_layer (Or a b) = a ++ b

-- the ports that the expression names, from left to right
abbrev pub reads_of : Expr → List ℕ
reads_of = fold-Expr (List ℕ) reads_layer

abbrev pub operators_layer : Expr-F ℕ → ℕ
operators_layer (Port n) = 0
operators_layer (Not a) = a + 1
operators_layer (And a b) = a + b + 1
operators_layer (Xor a b) = a + b + 1
operators_layer (Or a b) = a + b + 1

-- how many operators the expression has
abbrev pub operators_of : Expr → ℕ
operators_of = fold-Expr ℕ operators_layer
