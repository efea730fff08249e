use Rattle.std.proofs.Common.{sym, subst, ◌∷◌, []}
use Rattle.eq_net.specs.Tree.{trees_of}
use Rattle.eq_verilog.specs.Trees.{item_tree, target_tree}
use Rattle.eq_analysis.specs.Finding.{scope_of}
use Rattle.eq_layout.specs.Spending.{process_cost}
use Rattle.eq_registers.proofs.Branching.{on_ok}
use Rattle.eq_sequential.specs.inner.Processing.{processes_in, AddsProcesses}
use Rattle.eq_sequential.proofs.following.add_item.Goals as goal

pub returns-in-Always : goal.returns-in-Always
returns-in-Always c =
    let s = scope_of c.args.nets.now c.args.names.now c.args.from in
    on_ok c.add_body.result
    (λ h. subst (λ i. AddsProcesses c.args.nets.now (trees_of c.args.words.now) (trees_of c.add_body.new.words)
    c.args.slots.now c.add_body.new.slots (processes_in s (item_tree i ∷ [])) (process_cost s (item_tree i)))
    (sym c.in-Always.is) (h (target_tree c.in-Always.clock)))
    c.add_body.ensures
