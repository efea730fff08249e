use Rattle.std.proofs.Common.{◌≡◌, ◌+◌}
use Rattle.eq_verilog.specs.Nets.{module_scope}
use Rattle.eq_analysis.specs.Tabling.{tree_at}
use Rattle.eq_cost.specs.Counts.{told}
use Rattle.eq_cost.proofs.ConnectionLemmas.{from}
use Rattle.eq_cost.proofs.connections.ordered_cost.Given as goal

abbrev pub invariant-loop-place : goal.invariant-loop-place
invariant-loop-place l =
    told (l.total + from (module_scope (tree_at l.table)) (tree_at l.inside) l.ports l.all l.place)
    ≡ told (from (module_scope (tree_at l.table)) (tree_at l.inside) l.ports l.all 0)
