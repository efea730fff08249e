use Rattle.std.proofs.Common.{ℕ, List, map, take, ap, ◌∙◌}
use Rattle.eq_verilog.specs.Trees.{ExprTree, expr_tree}
use Rattle.eq_verilog.specs.Firsts.{first_found}
use Rattle.eq_verilog.specs.TargetRefusals.{bad_output}
use Rattle.eq_analysis.specs.Tabling.{tree_at}
use Rattle.eq_analysis.proofs.OutputLemmas.{outputs_taken}
use Rattle.eq_analysis.proofs.outputs.bad_terminal.Goals as goal

pub returns : goal.returns
returns c =
    let m = tree_at c.args.table.now in
    let terms = c.args.terms.now in
    c.in_ok-found.ensures
    ∙ ap (λ (n : ℕ). first_found (bad_output m) (map expr_tree (take n terms))) c.outputs_among-count.ensures
    ∙ ap (λ (es : List ExprTree). first_found (bad_output m) es) (outputs_taken c.args.kind terms)
