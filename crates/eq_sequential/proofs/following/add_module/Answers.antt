use Rattle.std.proofs.Common.{List, map, take, sym, subst}
use Rattle.std.specs.Prelude.{sum_by}
use Rattle.eq_net.specs.Tree.{trees_of}
use Rattle.eq_verilog.specs.Trees.{ItemTree, item_tree}
use Rattle.eq_analysis.specs.Finding.{scope_of}
use Rattle.eq_flatten.proofs.Itemized.{taken_item}
use Rattle.eq_layout.specs.Spending.{process_cost}
use Rattle.eq_sequential.specs.inner.Processing.{processes_in, AddsProcesses}
use Rattle.eq_sequential.proofs.FollowingLemmas.{processes_next}
use Rattle.eq_sequential.proofs.ReadyLemmas.{always_ready_at}
use Rattle.eq_sequential.proofs.following.add_module.Goals as goal

pub add_item-requires-clause-ready : goal.add_item-requires-clause-ready
add_item-requires-clause-ready c =
    always_ready_at c.args.nets.now c.args.names.now c.args.from c.args.items.now c.loop-item.item-index
    c.item-item.result c.loop-item-test.true c.item-item.is c.requires.ready

pub loop-item-preserved : goal.loop-item-preserved
loop-item-preserved c =
    let s = scope_of c.args.nets.now c.args.names.now c.args.from in
    let is = c.args.items.now in
    let k = c.loop-item.item-index in
    let i = c.item-item.result in
    subst (λ (js : List ItemTree). AddsProcesses c.args.nets.now (trees_of c.args.words.now)
    (trees_of c.add_item.new.words) c.args.slots.now c.add_item.new.slots (processes_in s js)
    (sum_by (process_cost s) js))
    (sym (taken_item is k i c.loop-item-test.true c.item-item.is))
    (processes_next c.args.nets.now s (map item_tree (take k is)) (item_tree i) (trees_of c.args.words.now)
    (trees_of c.loop-item.words) (trees_of c.add_item.new.words) c.args.slots.now c.loop-item.slots
    c.add_item.new.slots c.loop-item.invariant c.in_ok-add_item.ensures)
