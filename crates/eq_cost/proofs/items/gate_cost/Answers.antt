use Rattle.std.proofs.Common.{◌≡◌, ◌+◌, ◌-◌, ◌*◌, length, map, sym, ap, ap₂, ◌∙◌}
use Rattle.std.specs.Prelude.{sum_by}
use Rattle.std.proofs.lemmas.List.{length-map}
use Rattle.eq_verilog.specs.Trees.{expr_tree}
use Rattle.eq_verilog.specs.Sizes.{own}
use Rattle.eq_verilog.specs.Equations.{gate_inputs, gate_outputs}
use Rattle.eq_verilog.specs.Nets.{module_scope}
use Rattle.eq_verilog.specs.Costs.{cost}
use Rattle.eq_analysis.specs.Tabling.{tree_at}
use Rattle.eq_cost.specs.Counts.{told}
use Rattle.eq_cost.specs.inner.Gates.{outputs}
use Rattle.eq_cost.proofs.ItemLemmas.{inputs_are, outputs_are}
use Rattle.eq_cost.proofs.Numbers.{summed}
use Rattle.eq_cost.proofs.items.gate_cost.Goals as goal

pub returns : goal.returns
returns c = λ trees name.
    let s = module_scope (tree_at c.args.table.now) in
    let es = map expr_tree c.args.terms.now in
    let k = c.args.kind in
    let count : length es ≡ length c.args.terms.now = length-map c.args.terms.now expr_tree in
    let out : c.outputs-driven.result ≡ length (gate_outputs k es) =
    c.outputs-driven.ensures ∙ ap (λ n. outputs k n) (sym count) ∙ sym (outputs_are es k) in
    let ins : c.saturating_sub.result ≡ length (gate_inputs k es) =
    c.saturating_sub.ensures ∙ ap₂ (λ n m. n - m) (sym count) c.outputs-driven.ensures
    ∙ ap (λ n. length es - outputs k n) (sym count) ∙ sym (inputs_are es k) in
    let nodes = c.gate_nodes-nodes.ensures ∙ ap₂ (λ n m. told (n * (4 * m + 1))) out ins in
    summed c.gate_nodes-nodes.result (length (gate_outputs k es) * (4 * length (gate_inputs k es) + 1))
    c.terms_cost.result (sum_by (λ e. cost s e (own s e)) es) c.sum.result c.sum.ensures nodes c.terms_cost.ensures
