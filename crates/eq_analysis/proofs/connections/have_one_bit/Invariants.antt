use Rattle.std.proofs.Common.{◌≡◌, drop, map}
use Rattle.std.specs.Prelude.{◌==◌}
use Rattle.std.specs.List.{list_all}
use Rattle.eq_verilog.specs.Trees.{expr_tree}
use Rattle.eq_verilog.specs.Sizes.{own}
use Rattle.eq_verilog.specs.Nets.{module_scope}
use Rattle.eq_analysis.specs.Tabling.{tree_at}
use Rattle.eq_analysis.proofs.connections.have_one_bit.Given as goal

abbrev pub invariant-loop-term : goal.invariant-loop-term
invariant-loop-term l =
    list_all (λ e. own (module_scope (tree_at l.table)) e == 1) (map expr_tree l.terms)
    ≡ list_all (λ e. own (module_scope (tree_at l.table)) e == 1) (map expr_tree (drop l.term-index l.terms))
