use Rattle.std.proofs.Common.{◌≡◌, ◌+◌, drop, map}
use Rattle.eq_verilog.specs.Trees.{expr_tree, join_all}
use Rattle.eq_verilog.specs.Sizes as spec
use Rattle.eq_analysis.specs.Finding.{scope_of}
use Rattle.eq_analysis.proofs.sizes.+sizes.Given as goal

abbrev pub invariant-own_of_all-loop-part : goal.invariant-own_of_all-loop-part
invariant-own_of_all-loop-part l =
    l.total + spec.own (scope_of l.nets l.names l.from) (join_all (drop l.part-index (map expr_tree l.parts)))
    ≡ spec.own (scope_of l.nets l.names l.from) (join_all (map expr_tree l.parts))
