use Rattle.std.proofs.Common.{List, Option, map, take, sym, subst}
use Rattle.std.specs.Prelude.{flat_map, sum_by}
use Rattle.eq_net.specs.Tree.{trees_of}
use Rattle.eq_verilog.specs.Trees.{named_tree}
use Rattle.eq_verilog.specs.Equations.{Connection}
use Rattle.eq_analysis.specs.Finding.{scope_of}
use Rattle.eq_analysis.specs.Tabling.{tree_at}
use Rattle.eq_flatten.specs.Equating.{AddsEquations}
use Rattle.eq_flatten.specs.Linking.{maybe_cost, maybe_equations, named_connection}
use Rattle.eq_flatten.proofs.Itemized.{adds_each}
use Rattle.eq_flatten.proofs.Linked.{joined_named, taken_named}
use Rattle.eq_flatten.proofs.linking.add_by_name.Goals as goal

pub add_named-requires-clause-joined : goal.add_named-requires-clause-joined
add_named-requires-clause-joined c =
    joined_named c.args.nets.now c.args.inner.now c.args.first c.args.names.now c.args.from (tree_at c.args.inside.now)
    c.args.all.now c.loop-named.named-index c.named-item.result c.loop-named-test.true c.named-item.is c.requires.joined

pub loop-named-preserved : goal.loop-named-preserved
loop-named-preserved c =
    let nets = c.args.nets.now in
    let i = scope_of nets c.args.inner.now c.args.first in
    let o = scope_of nets c.args.names.now c.args.from in
    let m = tree_at c.args.inside.now in
    let k = c.loop-named.named-index in
    let n = c.named-item.result in
    subst (λ (cs : List (Option Connection)). AddsEquations nets (trees_of c.args.words.now)
    (trees_of c.add_named.new.words) c.args.slots.now c.add_named.new.slots (flat_map (maybe_equations i o m) cs)
    (sum_by (maybe_cost i o m) cs))
    (sym (taken_named m c.args.all.now k n c.loop-named-test.true c.named-item.is))
    (adds_each nets (maybe_equations i o m) (maybe_cost i o m)
    (map (named_connection m) (map named_tree (take k c.args.all.now))) (named_connection m (named_tree n))
    (trees_of c.args.words.now) (trees_of c.loop-named.words) (trees_of c.add_named.new.words) c.args.slots.now
    c.loop-named.slots c.add_named.new.slots c.loop-named.invariant c.in_ok-add_named.ensures)
