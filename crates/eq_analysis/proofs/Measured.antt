-- The parts of a concatenation, and their sizes.
use Rattle.std.proofs.Common.{◌≡◌, ℕ, zero, suc, ◌+◌, ◌<◌, ◌≤◌, List, [], ◌∷◌, drop, length, map, slice_index_or, refl, arith, ap, sym, subst}
use Rattle.eq_vparse.specs.declared.tree.Expr.{Expr}
use Rattle.eq_verilog.specs.Trees.{ExprTree, expr_tree, join_all}
use Rattle.eq_verilog.specs.Scopes.{Scope}
use Rattle.eq_verilog.specs.Sizes.{own}
use Rattle.eq_verilog.specs.ModuleRefusals.{most_size}
use Rattle.eq_analysis.specs.Measuring.{IsSmall}

-- each part of a small concatenation is small
pub small_part : (s : Scope) (es : List Expr) (k : ℕ) (e : Expr) → k < length es → e ≡ slice_index_or es k e →
    IsSmall s (join_all (map expr_tree es)) → IsSmall s (expr_tree e)
small_part s [] k e lt is h = absurd (omega arith)
small_part s (x ∷ xs) zero e lt is h = subst (λ y. IsSmall s (expr_tree y)) (sym is) h.1
small_part s (x ∷ xs) (suc k) e lt is h = small_part s xs k e (omega arith) is h.2

-- no part and no rest of it is larger than it
pub small_join : (s : Scope) (ts : List ExprTree) → IsSmall s (join_all ts) → own s (join_all ts) ≤ most_size
small_join s [] h = omega arith
small_join s (t ∷ ts) h = h.0

rest_suc : (s : Scope) (es : List Expr) (k : ℕ) (e : Expr) → k < length es → e ≡ slice_index_or es k e →
    own s (join_all (drop k (map expr_tree es))) ≡ own s (expr_tree e) + own s (join_all (drop (suc k) (map expr_tree
    es)))
rest_suc s [] k e lt is = absurd (omega arith)
rest_suc s (x ∷ xs) zero e lt is = ap (λ y. own s (expr_tree y) + own s (join_all (map expr_tree xs))) (sym is)
rest_suc s (x ∷ xs) (suc k) e lt is = rest_suc s xs k e (omega arith) is

-- what is left from a part on is the part and what is left behind it
pub rest_own : (s : Scope) (es : List Expr) (k : ℕ) (e : Expr) → k < length es → e ≡ slice_index_or es k e →
    own s (join_all (drop k (map expr_tree es))) ≡ own s (expr_tree e) + own s (join_all (drop (k + 1) (map expr_tree
    es)))
rest_own s es k e lt is =
    let next : suc k ≡ k + 1 = omega arith in
    subst (λ m. own s (join_all (drop k (map expr_tree es))) ≡ own s (expr_tree e) + own s (join_all (drop m (map
    expr_tree es))))
    next (rest_suc s es k e lt is)

-- nothing is left at the end
pub rest_none : (s : Scope) (es : List Expr) → own s (join_all (drop (length es) (map expr_tree es))) ≡ 0
rest_none s [] = refl
rest_none s (e ∷ es) = rest_none s es
