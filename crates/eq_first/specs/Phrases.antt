-- Expressions of the first form as they are written, with their parentheses (IEEE 1364-2005, 5.1 and A.8.3).
use Rattle.std.specs.Prelude.{◌≡◌, ℕ, suc, ◌≤◌, Bool, true, false, List, [], ◌∷◌, ◌++◌, slice_get, IsSomeAnd}
use Rattle.eq_first.specs.declared.module.Direction.{Direction}
use Rattle.eq_first.specs.declared.module.Direction.TheVariants.{Input}
use Rattle.eq_first.specs.declared.module.Port.{Port}
use Rattle.eq_first.specs.declared.module.Expr.{Expr}
use Rattle.eq_first.specs.declared.module.Expr.TheVariants.{Port as PortExpr}
use Rattle.eq_first.specs.declared.module.Expr.TheViews.{Not as NotExpr, And as AndExpr, Xor as XorExpr, Or as OrExpr}
use Rattle.eq_first.specs.declared.token.Operator.{Operator}
use Rattle.eq_first.specs.declared.token.Operator.TheVariants as operators
use Rattle.eq_first.specs.declared.token.Mark.{Mark}
use Rattle.eq_first.specs.declared.token.Mark.TheVariants.{Open, Close, Not, And, Xor, Or}
use Rattle.eq_first.specs.Tokens.{Token, word, mark}

pub data Phrase : Type 0 where
  named : List ℕ → Phrase
  grouped : Phrase → Phrase
  negated : Phrase → Phrase
  joined : Operator → Phrase → Phrase → Phrase

abbrev pub mark_of : Operator → Mark
mark_of operators.And = And
mark_of operators.Xor = Xor
mark_of operators.Or = Or

abbrev pub tokens_of : Phrase → List Token
tokens_of (named w) = word w ∷ []
tokens_of (grouped p) = mark Open ∷ (tokens_of p ++ mark Close ∷ [])
tokens_of (negated p) = mark Not ∷ tokens_of p
tokens_of (joined o p q) = tokens_of p ++ mark (mark_of o) ∷ tokens_of q

-- `&` binds more strongly than `^`, and `^` than `|`
abbrev pub strength_of : Operator → ℕ
strength_of operators.And = 3
strength_of operators.Xor = 2
strength_of operators.Or = 1

-- all else binds more strongly
abbrev pub strength : Phrase → ℕ
strength (named w) = 4
strength (grouped p) = 4
strength (negated p) = 4
strength (joined o p q) = strength_of o

-- An operand of `~` binds as strongly as `~`. The left operand of an operator binds as strongly as the operator and the right one more strongly, so operators of one kind associate to the left.
abbrev pub IsGrouped : Phrase → Type 0
IsGrouped (named w) = Unit {0}
IsGrouped (grouped p) = IsGrouped p
IsGrouped (negated p) = IsGrouped p × (4 ≤ strength p)
IsGrouped (joined o p q) = IsGrouped p × IsGrouped q × (strength_of o ≤ strength p) × (suc (strength_of o) ≤ strength q)

-- the marks of which an expression has at most 1,000
abbrev pub is_counted : Token → Bool
is_counted (mark Open) = true
is_counted (mark Not) = true
is_counted (mark And) = true
is_counted (mark Xor) = true
is_counted (mark Or) = true
is_counted _ = false

-- the port n has this direction and this name
abbrev pub IsPortAt : List Port → Direction → List ℕ → ℕ → Type 0
IsPortAt ports d w n = IsSomeAnd (slice_get ports n) (λ p. (p.direction ≡ d) × (p.name ≡ w))

abbrev pub join : Operator → Expr → Expr → Expr
join operators.And a b = AndExpr a b
join operators.Xor a b = XorExpr a b
join operators.Or a b = OrExpr a b

-- The phrase stands for the expression. A name stands for the place of an input in the header.
abbrev pub Denotes : List Port → Phrase → Expr → Type 0
Denotes ports (named w) e = (n : ℕ) × IsPortAt ports Input w n × (e ≡ PortExpr n)
Denotes ports (grouped p) e = Denotes ports p e
Denotes ports (negated p) e = (a : Expr) × Denotes ports p a × (e ≡ NotExpr a)
Denotes ports (joined o p q) e = (a : Expr) × (b : Expr) × Denotes ports p a × Denotes ports q b × (e ≡ join o a b)
