use Rattle.std.proofs.Common.{◌+◌, ◌*◌}
use Rattle.eq_verilog.specs.Sizes.{own}
use Rattle.eq_verilog.specs.Costs.{cost, stmt_cost}
use Rattle.eq_cost.proofs.StatementLemmas.{is_branch}
use Rattle.eq_cost.proofs.statements.branch_line.Goals as goal

pub returns : goal.returns
returns c = λ s d x y test one other.
    is_branch s d x y _
    (c.added.ensures (λ n. n + (4 * own s d + cost s d (own s d))) (λ n. stmt_cost s n x + stmt_cost s n y)
    (c.test_line.ensures s d test)
    (c.added-branches.ensures (λ n. stmt_cost s n x) (λ n. stmt_cost s n y) one other))
