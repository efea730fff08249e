use Rattle.std.proofs.Common.{◌≡◌, drop, map}
use Rattle.eq_verilog.specs.Trees.{named_tree}
use Rattle.eq_verilog.specs.Firsts.{first_found}
use Rattle.eq_analysis.specs.Tabling.{tree_at}
use Rattle.eq_analysis.specs.inner.Assigning.{named_bad}
use Rattle.eq_analysis.proofs.assigning.bad_by_name.Given as goal

abbrev pub invariant-loop-named : goal.invariant-loop-named
invariant-loop-named l =
    first_found (named_bad (tree_at l.table) (tree_at l.inside)) (map named_tree l.all)
    ≡ first_found (named_bad (tree_at l.table) (tree_at l.inside)) (map named_tree (drop l.named-index l.all))
