use Rattle.std.proofs.Common.{◌≤◌, Option, Bor, min, length, arith, ap, sym, ◌∙◌}
use Rattle.std.specs.Prelude.{option_copied}
use Rattle.eq_names.specs.declared.name.Name.{Name as TheName}
use Rattle.eq_analysis.specs.Tabling.{tree_at}
use Rattle.eq_analysis.proofs.AssignLemmas.{ordered_all, ordered_next, ordered_stop}
use Rattle.eq_analysis.proofs.assigning.bad_in_order.Goals as goal

pub returns-in-Some : goal.returns-in-Some
returns-in-Some c =
    let less = c.loop-place-test.true in
    let count = c.min-count.ensures in
    ordered_stop (tree_at c.args.table.now) (tree_at c.args.inside.now) c.args.ports.now c.args.all.now
    c.loop-place.place c.index-ports-place.result c.index-all-place.result c.in-Some.name.now
    (omega (arith, less, count)) (omega (arith, less, count)) c.index-ports-place.is c.index-all-place.is
    c.loop-place.invariant
    (sym (ap (λ (o : Option (Bor TheName)). option_copied o) c.in-Some.is) ∙ c.in_ok-found.ensures)

pub loop-place-preserved : goal.loop-place-preserved
loop-place-preserved c =
    let less = c.loop-place-test.true in
    let count = c.min-count.ensures in
    ordered_next (tree_at c.args.table.now) (tree_at c.args.inside.now) c.args.ports.now c.args.all.now
    c.loop-place.place c.index-ports-place.result c.index-all-place.result
    (omega (arith, less, count)) (omega (arith, less, count)) c.index-ports-place.is c.index-all-place.is
    c.loop-place.invariant
    (sym (ap (λ (o : Option (Bor TheName)). option_copied o) c.in_default.is) ∙ c.in_ok-found.ensures)

pub returns : goal.returns
returns c =
    let over = c.loop-place-test.false in
    let count = c.min-count.ensures in
    let end : min (length c.args.ports.now) (length c.args.all.now) ≤ c.loop-place.place = omega (arith, over, count) in
    ordered_all (tree_at c.args.table.now) (tree_at c.args.inside.now) c.args.ports.now c.args.all.now
    c.loop-place.place end c.loop-place.invariant
