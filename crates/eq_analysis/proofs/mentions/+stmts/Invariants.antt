use Rattle.std.proofs.Common.{◌≡◌, drop, map}
use Rattle.eq_verilog.specs.Trees.{module_tree, stmt_tree, in_sequence}
use Rattle.eq_analysis.specs.inner.Mentioning.{answer, stmt_answer}
use Rattle.eq_analysis.proofs.mentions.+stmts.Given as goal

abbrev pub invariant-in_stmts-loop-stmt : goal.invariant-in_stmts-loop-stmt
invariant-in_stmts-loop-stmt l =
    stmt_answer (answer l.question (module_tree l.table.within.now)) (in_sequence (map stmt_tree l.all))
    ≡ stmt_answer (answer l.question (module_tree l.table.within.now))
    (in_sequence (map stmt_tree (drop l.stmt-index l.all)))
