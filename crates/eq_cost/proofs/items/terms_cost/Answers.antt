use Rattle.std.proofs.Common.{map, refl, sym, ap, ◌∙◌}
use Rattle.eq_verilog.specs.Trees.{expr_tree, join_all}
use Rattle.eq_verilog.specs.Nets.{module_scope}
use Rattle.eq_verilog.specs.Costs.{cost}
use Rattle.eq_analysis.specs.Tabling.{tree_at}
use Rattle.eq_cost.specs.Counts.{told}
use Rattle.eq_cost.proofs.PartLemmas.{joined_cost}
use Rattle.eq_cost.proofs.items.terms_cost.Goals as goal

pub returns : goal.returns
returns c =
    let s = module_scope (tree_at c.args.table.now) in
    let es = map expr_tree c.args.terms.now in
    c.at.ensures (cost s (join_all es)) 0 c.costed_all-all.ensures.line refl
    ∙ ap (λ n. told n) (sym (joined_cost s es 0))
