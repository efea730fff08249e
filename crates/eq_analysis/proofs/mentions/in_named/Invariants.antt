use Rattle.std.proofs.Common.{◌≡◌, drop}
use Rattle.eq_verilog.specs.Trees.{module_tree}
use Rattle.eq_verilog.specs.Firsts.{first_found}
use Rattle.eq_analysis.specs.inner.Mentioning.{maybe_answer}
use Rattle.eq_analysis.proofs.mentions.in_named.Given as goal

abbrev pub invariant-loop-named : goal.invariant-loop-named
invariant-loop-named l =
    first_found (λ n. maybe_answer l.question (module_tree l.table.within.now) n.expr) l.all
    ≡ first_found (λ n. maybe_answer l.question (module_tree l.table.within.now) n.expr) (drop l.named-index l.all)
