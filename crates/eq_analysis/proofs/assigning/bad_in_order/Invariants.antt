use Rattle.std.proofs.Common.{◌≡◌}
use Rattle.eq_analysis.specs.Tabling.{tree_at}
use Rattle.eq_analysis.proofs.AssignLemmas.{from}
use Rattle.eq_analysis.proofs.assigning.bad_in_order.Given as goal

abbrev pub invariant-loop-place : goal.invariant-loop-place
invariant-loop-place l =
    from (tree_at l.table) (tree_at l.inside) l.ports l.all 0
    ≡ from (tree_at l.table) (tree_at l.inside) l.ports l.all l.place
