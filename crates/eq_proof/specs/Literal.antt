-- Literals (DIMACS CNF: a variable's number, negative where the literal is its negation).
use Rattle.std.specs.Prelude.{◌≡◌, ℕ, ◌+◌, ◌*◌, ◌/◌, ◌%◌, ◌==◌, Bool, cond, not}
use Rattle.std.proofs.Common.{arith, ap₂}
use Rattle.std.proofs.lemmas.Bool.Decides.{nat_tests}

-- a variable with a sign
pub record Literal : Type 0 where
  pub var : ℕ
  pub positive : Bool

-- the literal of the same variable with the other sign
abbrev pub negation : Literal → Literal
negation l = record { var = l.var; positive = not l.positive }

-- the number that stands for a literal in memory, which keeps the literals' order
abbrev pub code_of : Literal → ℕ
code_of l = 2 * l.var + cond l.positive 0 1

-- the literal that a number stands for
abbrev pub literal_of : ℕ → Literal
literal_of n = record { var = n / 2; positive = n % 2 == 0 }

pub code_of-literal_of : (n : ℕ) → code_of (literal_of n) ≡ n
code_of-literal_of n = grind (arith, nat_tests)

-- two literals of one variable and one sign
pub literal_is : (a b : Literal) → a.var ≡ b.var → a.positive ≡ b.positive → a ≡ b
literal_is a b e f = ap₂ (λ (n : ℕ) (p : Bool). let l : Literal = record { var = n; positive = p } in l) e f
