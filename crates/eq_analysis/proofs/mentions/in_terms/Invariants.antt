use Rattle.std.proofs.Common.{◌≡◌, drop, map}
use Rattle.eq_verilog.specs.Trees.{module_tree, expr_tree}
use Rattle.eq_verilog.specs.Declarations.{expression}
use Rattle.eq_verilog.specs.Firsts.{first_found}
use Rattle.eq_analysis.specs.inner.Mentioning.{answer}
use Rattle.eq_analysis.proofs.mentions.in_terms.Given as goal

abbrev pub invariant-loop-term : goal.invariant-loop-term
invariant-loop-term l =
    first_found (answer l.question (module_tree l.table.within.now)) (map expression (map expr_tree l.terms))
    ≡ first_found (answer l.question (module_tree l.table.within.now))
    (map expression (map expr_tree (drop l.term-index l.terms)))
