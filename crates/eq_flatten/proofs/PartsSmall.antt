-- The parts of a concatenation that isn't too large aren't either.
use Rattle.std.proofs.Common.{◌≡◌, ℕ, zero, suc, ◌<◌, List, [], ◌∷◌, length, map, slice_index_or, arith, sym, subst}
use Rattle.eq_vparse.specs.declared.tree.Expr.{Expr}
use Rattle.eq_verilog.specs.Trees.{ExprTree, expr_tree, join_all}
use Rattle.eq_verilog.specs.Scopes.{Scope}
use Rattle.eq_analysis.specs.Measuring.{AllSmall, IsSmall}

-- all parts of a small concatenation are small
pub all_small : (s : Scope) (ts : List ExprTree) → IsSmall s (join_all ts) → AllSmall s ts
all_small s [] h = tt
all_small s (t ∷ ts) h = (h.1, all_small s ts h.2)

-- each of those that are small
pub small_at : (s : Scope) (es : List Expr) (k : ℕ) (e : Expr) → k < length es → e ≡ slice_index_or es k e →
    AllSmall s (map expr_tree es) → IsSmall s (expr_tree e)
small_at s [] k e lt is h = absurd (omega arith)
small_at s (x ∷ xs) zero e lt is h = subst (λ y. IsSmall s (expr_tree y)) (sym is) h.0
small_at s (x ∷ xs) (suc k) e lt is h = small_at s xs k e (omega arith) is h.1
