use Rattle.std.proofs.Common.{sym, subst, ◌∷◌, []}
use Rattle.eq_net.specs.Net.{bits_of}
use Rattle.eq_verilog.specs.Trees.{item_tree, stmt_tree}
use Rattle.eq_analysis.specs.Finding.{scope_of}
use Rattle.eq_registers.proofs.Branching.{on_ok}
use Rattle.eq_sequential.specs.inner.Happening.{AddsEvents}
use Rattle.eq_sequential.specs.inner.Processing.{processes_in}
use Rattle.eq_sequential.proofs.events.add_item.Goals as goal

pub returns-in-Always : goal.returns-in-Always
returns-in-Always c =
    let s = scope_of c.args.nets.now c.args.names.now c.args.from in
    on_ok c.add_event.result
    (λ h. subst (λ i. AddsEvents (bits_of c.args.nets.now) c.args.events.now.items c.add_event.new.events.items
    (processes_in s (item_tree i ∷ []))) (sym c.in-Always.is) (h (stmt_tree c.in-Always.body)))
    c.add_event.ensures
