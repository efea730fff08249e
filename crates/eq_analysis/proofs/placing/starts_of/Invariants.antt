use Rattle.eq_verilog.specs.Trees.{module_tree}
use Rattle.eq_analysis.specs.Placing.{bits_at, IsPlaced}
use Rattle.eq_analysis.proofs.placing.starts_of.Given as goal

abbrev pub invariant-loop-place : goal.invariant-loop-place
invariant-loop-place l = IsPlaced (bits_at (module_tree l.table.within.now)) l.names l.place l.firsts.items l.total
