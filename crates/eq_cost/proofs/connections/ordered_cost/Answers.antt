use Rattle.std.proofs.Common.{◌≤◌, min, length, arith, refl}
use Rattle.std.specs.Prelude.{option_map}
use Rattle.eq_verilog.specs.Trees.{expr_tree}
use Rattle.eq_verilog.specs.Nets.{module_scope}
use Rattle.eq_verilog.specs.Equations.{connected}
use Rattle.eq_analysis.specs.Tabling.{tree_at}
use Rattle.eq_cost.specs.inner.Connecting.{maybe_cost}
use Rattle.eq_cost.proofs.ConnectionLemmas.{ordered_all, ordered_next}
use Rattle.eq_cost.proofs.Numbers.{summed}
use Rattle.eq_cost.proofs.connections.ordered_cost.Goals as goal

pub loop-place-preserved : goal.loop-place-preserved
loop-place-preserved c =
    let s = module_scope (tree_at c.args.table.now) in
    let i = tree_at c.args.inside.now in
    let p = c.index-ports-place.result in
    let e = c.index-all-place.result in
    let total = c.loop-place.total in
    let less = c.loop-place-test.true in
    let count = c.min-count.ensures in
    ordered_next s i c.args.ports.now c.args.all.now c.loop-place.place p e total c.sum-total.result
    (omega (arith, less, count)) (omega (arith, less, count)) c.index-ports-place.is c.index-all-place.is
    c.loop-place.invariant
    (summed total total c.maybe_cost.result (maybe_cost s i (connected p (option_map expr_tree e))) c.sum-total.result
    c.sum-total.ensures refl c.maybe_cost.ensures)

pub returns : goal.returns
returns c =
    let s = module_scope (tree_at c.args.table.now) in
    let i = tree_at c.args.inside.now in
    let over = c.loop-place-test.false in
    let count = c.min-count.ensures in
    let end : min (length c.args.ports.now) (length c.args.all.now) ≤ c.loop-place.place = omega (arith, over, count) in
    ordered_all s i c.args.ports.now c.args.all.now c.loop-place.place c.loop-place.total end c.loop-place.invariant
