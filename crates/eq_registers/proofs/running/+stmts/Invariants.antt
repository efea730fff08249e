use Rattle.std.proofs.Common.{drop, map}
use Rattle.eq_net.specs.Tree.{trees_of}
use Rattle.eq_verilog.specs.Trees.{stmt_tree, in_sequence}
use Rattle.eq_registers.specs.inner.Stepping.{IsUnderWay}
use Rattle.eq_registers.proofs.running.+stmts.Given as goal

abbrev pub invariant-run_all-loop-stmt : goal.invariant-run_all-loop-stmt
invariant-run_all-loop-stmt l =
    IsUnderWay l.nets l.names l.from (in_sequence (map stmt_tree l.all))
    (in_sequence (map stmt_tree (drop l.stmt-index l.all))) l.keys.bits (trees_of l.fn.words) (trees_of l.words)
    l.fn.table l.table
