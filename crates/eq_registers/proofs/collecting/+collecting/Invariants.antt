use Rattle.std.proofs.Common.{drop, map}
use Rattle.eq_verilog.specs.Trees.{stmt_tree, in_sequence}
use Rattle.eq_registers.specs.inner.Adding.{IsAmong}
use Rattle.eq_registers.proofs.collecting.+collecting.Given as goal

abbrev pub invariant-add_all-loop-stmt : goal.invariant-add_all-loop-stmt
invariant-add_all-loop-stmt l =
    IsAmong l.nets l.names l.from (in_sequence (map stmt_tree l.all))
    (in_sequence (map stmt_tree (drop l.stmt-index l.all))) l.fn.keys l.keys
