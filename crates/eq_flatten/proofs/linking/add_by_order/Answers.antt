use Rattle.std.proofs.Common.{List, Option, map, take, arith, sym, subst}
use Rattle.std.specs.Prelude.{flat_map, option_map, sum_by}
use Rattle.eq_net.specs.Tree.{trees_of}
use Rattle.eq_verilog.specs.Trees.{expr_tree}
use Rattle.eq_verilog.specs.Equations.{Connection, connected}
use Rattle.eq_analysis.specs.Finding.{scope_of}
use Rattle.eq_analysis.specs.Tabling.{tree_at}
use Rattle.eq_flatten.specs.Equating.{AddsEquations}
use Rattle.eq_flatten.specs.Linking.{maybe_cost, maybe_equations, ordered}
use Rattle.eq_flatten.proofs.Itemized.{adds_each}
use Rattle.eq_flatten.proofs.Linked.{joined_ordered, ordered_done, ordered_next}
use Rattle.eq_flatten.proofs.linking.add_by_order.Goals as goal

pub add_maybe-requires-clause-joined : goal.add_maybe-requires-clause-joined
add_maybe-requires-clause-joined c =
    let less = c.loop-place-test.true in
    let count = c.min-count.ensures in
    joined_ordered c.args.nets.now c.args.inner.now c.args.first c.args.names.now c.args.from (tree_at c.args.inside.now)
    c.args.ports.now c.args.all.now c.loop-place.place c.index-ports-place.result c.index-all-place.result
    (omega (arith, less, count)) (omega (arith, less, count)) c.index-ports-place.is c.index-all-place.is
    c.requires.joined

pub loop-place-preserved : goal.loop-place-preserved
loop-place-preserved c =
    let nets = c.args.nets.now in
    let i = scope_of nets c.args.inner.now c.args.first in
    let o = scope_of nets c.args.names.now c.args.from in
    let m = tree_at c.args.inside.now in
    let k = c.loop-place.place in
    let p = c.index-ports-place.result in
    let e = c.index-all-place.result in
    let less = c.loop-place-test.true in
    let count = c.min-count.ensures in
    subst (λ (cs : List (Option Connection)). AddsEquations nets (trees_of c.args.words.now)
    (trees_of c.add_maybe.new.words) c.args.slots.now c.add_maybe.new.slots (flat_map (maybe_equations i o m) cs)
    (sum_by (maybe_cost i o m) cs))
    (sym (ordered_next c.args.ports.now c.args.all.now k p e (omega (arith, less, count)) (omega (arith, less, count))
    c.index-ports-place.is c.index-all-place.is))
    (adds_each nets (maybe_equations i o m) (maybe_cost i o m)
    (take k (ordered c.args.ports.now (map (λ x. option_map expr_tree x) c.args.all.now)))
    (connected p (option_map expr_tree e))
    (trees_of c.args.words.now) (trees_of c.loop-place.words) (trees_of c.add_maybe.new.words) c.args.slots.now
    c.loop-place.slots c.add_maybe.new.slots c.loop-place.invariant c.in_ok-add_maybe.ensures)

pub returns : goal.returns
returns c =
    let nets = c.args.nets.now in
    let i = scope_of nets c.args.inner.now c.args.first in
    let o = scope_of nets c.args.names.now c.args.from in
    let m = tree_at c.args.inside.now in
    let over = c.loop-place-test.false in
    let count = c.min-count.ensures in
    subst (λ (cs : List (Option Connection)). AddsEquations nets (trees_of c.args.words.now)
    (trees_of c.loop-place.words) c.args.slots.now c.loop-place.slots (flat_map (maybe_equations i o m) cs)
    (sum_by (maybe_cost i o m) cs))
    (ordered_done c.args.ports.now c.args.all.now c.loop-place.place (omega (arith, over, count))) c.loop-place.invariant
