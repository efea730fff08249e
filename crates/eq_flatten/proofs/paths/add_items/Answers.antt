use Rattle.std.proofs.Common.{◌≡◌, ◌<◌, ◌-◌, suc, length, map, arith}
use Rattle.eq_verilog.specs.Trees.{module_tree}
use Rattle.eq_flatten.proofs.PathLemmas.{begun_next}
use Rattle.eq_flatten.proofs.paths.add_items.Goals as goal

pub loop-place-preserved : goal.loop-place-preserved
loop-place-preserved c =
    let m = c.loop-place.place in
    let k = m - 1 in
    let some = c.loop-place-test.true in
    let most = c.loop-place.invariant.bound in
    let inside : k < length c.args.items.now = omega (arith, some, most) in
    let next : m ≡ suc k = omega (arith, some) in
    begun_next (map (λ m. module_tree m.now) c.args.modules.now) c.args.items.now c.args.within c.args.left
    c.args.stack.now.items c.loop-place.stack.items c.add_item.new.stack.items k m c.index-items-place.result next inside
    c.index-items-place.is c.loop-place.invariant c.in_ok-add_item.ensures.unfolded c.in_ok-add_item.ensures.within
