use Rattle.std.proofs.Common.{◌≤◌, drop, length, map}
use Rattle.eq_verilog.specs.Trees.{join_all, target_tree}
use Rattle.eq_analysis.specs.Finding.{scope_of}
use Rattle.eq_flatten.specs.Meant.{AddsMeant}
use Rattle.eq_flatten.proofs.target_bits.+target_bits.Given as goal

abbrev pub invariant-add_parts-loop-place : goal.invariant-add_parts-loop-place
invariant-add_parts-loop-place l =
    record {
      within : l.place ≤ length l.parts;
      adds : AddsMeant l.nets (scope_of l.nets l.names l.from) (join_all (map target_tree (drop l.place l.parts)))
          l.fn.bits l.bits;
    }

abbrev pub decreases-add_parts-loop-place : goal.decreases-add_parts-loop-place
decreases-add_parts-loop-place l = l.place
