-- A conditional statement costs its condition and what its branches do.
use Rattle.std.proofs.Common.{◌≡◌, ℕ, ◌+◌, ◌*◌, sym, ap, ◌∙◌, arith}
use Rattle.eq_verilog.specs.Trees.{ExprTree, StmtTree, branch}
use Rattle.eq_verilog.specs.Scopes.{Scope}
use Rattle.eq_verilog.specs.Sizes.{own}
use Rattle.eq_verilog.specs.Costs.{cost, stmt_cost}
use Rattle.eq_cost.specs.Counts.{told}
use Rattle.eq_cost.specs.declared.lines.Line.{Line}
use Rattle.eq_cost.specs.inner.Lines.{IsLine}

branched : (n k c x y : ℕ) → (n + (4 * k + c)) + (x + y) ≡ (c + (4 * k + n)) + (x + y)
branched n k c x y = omega arith

pub is_branch : (s : Scope) (c : ExprTree) (x y : StmtTree) (l : Line) →
    IsLine (λ n. (n + (4 * own s c + cost s c (own s c))) + (stmt_cost s n x + stmt_cost s n y)) l →
    IsLine (λ n. stmt_cost s n (branch c x y)) l
is_branch s c x y l h = λ n.
    ap (λ k. told k) (sym (branched n (own s c) (cost s c (own s c)) (stmt_cost s n x) (stmt_cost s n y))) ∙ h n
