use Rattle.eq_verilog.specs.Trees.{stmt_tree}
use Rattle.eq_verilog.specs.Nets.{module_scope}
use Rattle.eq_verilog.specs.Costs.{bits_set}
use Rattle.eq_analysis.specs.Tabling.{tree_at}
use Rattle.std.proofs.Common.{[]}
use Rattle.eq_cost.proofs.SeenLemmas.{counted_all}
use Rattle.eq_cost.proofs.seen.count_set.Goals as goal

pub returns : goal.returns
returns c =
    counted_all c.see_stmt.new.seen (bits_set (module_scope (tree_at c.args.table.now)) (stmt_tree c.args.stmt.now))
    (c.in_ok-see_stmt.ensures [] c.nothing-seen.ensures)
