use Rattle.std.proofs.Common.{◌≡◌, ◌≤◌, ℕ, List, length, ap, arith}
use Rattle.std.proofs.lemmas.List.{length-map}
use Rattle.eq_analysis.specs.Tabling.{tree_at, trees_at}
use Rattle.eq_cost.proofs.ValueLemmas.{value_of_top}
use Rattle.eq_cost.proofs.designs.cost_at.Goals as goal

pub returns-in-Some : goal.returns-in-Some
returns-in-Some c =
    let all = trees_at c.args.tables.now in
    let count = length-map c.args.tables.now tree_at in
    let most = c.in_ok-order.ensures in
    let same : length c.as_slice-modules.result.now ≡ length c.in_ok-order.order.items =
    ap (λ (xs : List ℕ). length xs) c.as_slice-modules.ensures.value in
    let few : length c.as_slice-modules.result.now ≤ length all = omega (arith, count, most, same) in
    value_of_top all (length c.as_slice-modules.result.now) c.in_ok-values.values.items c.as_slice-found.result.now
    c.args.place c.in-Some.value c.value_at.result c.as_slice-found.ensures.value c.in_ok-values.ensures few
    c.in-Some.is c.value_at.ensures
