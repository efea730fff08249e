use Rattle.std.proofs.Common.{List, map, take, sym, subst}
use Rattle.std.specs.Prelude.{flat_map, sum_by}
use Rattle.eq_net.specs.Tree.{trees_of}
use Rattle.eq_verilog.specs.Trees.{ItemTree, item_tree}
use Rattle.eq_analysis.specs.Finding.{scope_of}
use Rattle.eq_flatten.specs.Equating.{AddsEquations}
use Rattle.eq_flatten.specs.Items.{own_cost, own_equations}
use Rattle.eq_flatten.proofs.Itemized.{adds_each, ready_at, taken_item}
use Rattle.eq_flatten.proofs.items.add_module.Goals as goal

pub add_equations-requires-clause-ready : goal.add_equations-requires-clause-ready
add_equations-requires-clause-ready c =
    ready_at c.args.nets.now c.args.names.now c.args.from c.args.items.now c.loop-item.item-index c.item-item.result
    c.loop-item-test.true c.item-item.is c.requires.ready

pub loop-item-preserved : goal.loop-item-preserved
loop-item-preserved c =
    let nets = c.args.nets.now in
    let s = scope_of nets c.args.names.now c.args.from in
    let is = c.args.items.now in
    let k = c.loop-item.item-index in
    let i = c.item-item.result in
    subst (λ (js : List ItemTree). AddsEquations nets (trees_of c.args.words.now) (trees_of c.add_equations.new.words)
    c.args.slots.now c.add_equations.new.slots (flat_map (own_equations s) js) (sum_by (own_cost s) js))
    (sym (taken_item is k i c.loop-item-test.true c.item-item.is))
    (adds_each nets (own_equations s) (own_cost s) (map item_tree (take k is)) (item_tree i) (trees_of c.args.words.now) (trees_of c.loop-item.words)
    (trees_of c.add_equations.new.words) c.args.slots.now c.loop-item.slots c.add_equations.new.slots
    c.loop-item.invariant c.in_ok-add_equations.ensures)
