use Rattle.std.proofs.Common.{◌≡◌, drop}
use Rattle.eq_verilog.specs.Trees.{module_tree}
use Rattle.eq_verilog.specs.Firsts.{first_found}
use Rattle.eq_analysis.specs.inner.Mentioning.{maybe_answer}
use Rattle.eq_analysis.proofs.mentions.in_maybes.Given as goal

abbrev pub invariant-loop-expr : goal.invariant-loop-expr
invariant-loop-expr l =
    first_found (maybe_answer l.question (module_tree l.table.within.now)) l.exprs
    ≡ first_found (maybe_answer l.question (module_tree l.table.within.now)) (drop l.expr-index l.exprs)
