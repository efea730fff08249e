use Rattle.std.proofs.Common.{map}
use Rattle.eq_verilog.specs.Trees.{module_tree}
use Rattle.eq_analysis.proofs.VisitLemmas.{none_named}
use Rattle.eq_analysis.proofs.visiting.first_visited.Goals as goal

pub returns-clause-none : goal.returns-clause-none
returns-clause-none c =
    none_named (map (λ m. module_tree m.now) c.args.modules.now) c.args.seen.now c.args.visit.now c.module_named.result
    c.module_named.ensures
