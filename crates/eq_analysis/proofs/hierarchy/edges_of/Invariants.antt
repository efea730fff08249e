use Rattle.std.proofs.Common.{map}
use Rattle.eq_verilog.specs.Trees.{module_tree}
use Rattle.eq_analysis.proofs.EdgeLemmas.{HasEdgesTo}
use Rattle.eq_analysis.proofs.hierarchy.edges_of.Given as goal

abbrev pub invariant-loop-place : goal.invariant-loop-place
invariant-loop-place l = HasEdgesTo l.edges.items l.names (map (λ m. module_tree m.now) l.modules) l.place
