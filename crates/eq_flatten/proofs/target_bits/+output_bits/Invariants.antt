use Rattle.std.proofs.Common.{◌≤◌, drop, length, map}
use Rattle.eq_verilog.specs.Trees.{expr_tree, join_all}
use Rattle.eq_analysis.specs.Finding.{scope_of}
use Rattle.eq_flatten.specs.Meant.{AddsMeant}
use Rattle.eq_flatten.proofs.target_bits.+output_bits.Given as goal

abbrev pub invariant-add_outputs-loop-place : goal.invariant-add_outputs-loop-place
invariant-add_outputs-loop-place l =
    record {
      within : l.place ≤ length l.parts;
      adds : AddsMeant l.nets (scope_of l.nets l.names l.from) (join_all (map expr_tree (drop l.place l.parts)))
          l.fn.bits l.bits;
    }

abbrev pub decreases-add_outputs-loop-place : goal.decreases-add_outputs-loop-place
decreases-add_outputs-loop-place l = l.place
