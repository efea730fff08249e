use Rattle.std.proofs.Common.{List, map, subst}
use Rattle.eq_reads.specs.declared.graph.Edge.{Edge}
use Rattle.eq_loops.specs.Components.{NeverFall}
use Rattle.eq_verilog.specs.Trees.{module_tree}
use Rattle.eq_analysis.proofs.ClimbingLemmas.{numbers_climb}
use Rattle.eq_analysis.proofs.hierarchy.numbers_of.Goals as goal

pub returns : goal.returns
returns c =
    numbers_climb c.in_ok-numbers.numbers.items c.in_ok-edges.edges.items
    (subst (λ (es : List Edge). NeverFall es c.in_ok-numbers.numbers.items) c.as_slice.ensures.value
    c.in_ok-numbers.ensures)
    c.args.names.now (map (λ m. module_tree m.now) c.args.modules.now) c.in_ok-edges.ensures
