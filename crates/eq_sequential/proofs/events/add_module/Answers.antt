use Rattle.std.proofs.Common.{List, map, take, sym, subst}
use Rattle.eq_net.specs.Net.{bits_of}
use Rattle.eq_verilog.specs.Trees.{ItemTree, item_tree}
use Rattle.eq_analysis.specs.Finding.{scope_of}
use Rattle.eq_flatten.proofs.Itemized.{taken_item}
use Rattle.eq_sequential.specs.inner.Happening.{AddsEvents}
use Rattle.eq_sequential.specs.inner.Processing.{processes_in}
use Rattle.eq_sequential.proofs.EventLemmas.{events_next}
use Rattle.eq_sequential.proofs.ReadyLemmas.{always_ready_at}
use Rattle.eq_sequential.proofs.events.add_module.Goals as goal

pub add_item-requires-clause-ready : goal.add_item-requires-clause-ready
add_item-requires-clause-ready c =
    always_ready_at c.args.nets.now c.args.names.now c.args.from c.args.items.now c.loop-item.item-index
    c.item-item.result c.loop-item-test.true c.item-item.is c.requires.ready

pub loop-item-preserved : goal.loop-item-preserved
loop-item-preserved c =
    let s = scope_of c.args.nets.now c.args.names.now c.args.from in
    let is = c.args.items.now in
    let k = c.loop-item.item-index in
    let i = c.item-item.result in
    subst (λ (js : List ItemTree). AddsEvents (bits_of c.args.nets.now) c.args.events.now.items
    c.add_item.new.events.items (processes_in s js))
    (sym (taken_item is k i c.loop-item-test.true c.item-item.is))
    (events_next (bits_of c.args.nets.now) s (map item_tree (take k is)) (item_tree i) c.args.events.now.items
    c.loop-item.events.items c.add_item.new.events.items c.loop-item.invariant c.in_ok-add_item.ensures)
