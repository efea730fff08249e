use Rattle.std.proofs.Common.{◌≡◌, length, arith, subst}
use Rattle.eq_analysis.specs.Tabling.{trees_at}
use Rattle.eq_cost.specs.inner.Valuing.{AreValued}
use Rattle.eq_cost.proofs.values.find_values.Goals as goal

pub loop-place-preserved : goal.loop-place-preserved
loop-place-preserved c = λ h. c.in_ok-find_value.ensures c.loop-place.place-index (c.loop-place.invariant h)

pub returns : goal.returns
returns c = λ h.
    let last = c.loop-place-test.false in
    let within = c.loop-place.auto.place-index-end in
    let end : c.loop-place.place-index ≡ length c.args.order.now = omega arith in
    subst (λ k. AreValued (trees_at c.args.tables.now) k c.loop-place.values.items) end (c.loop-place.invariant h)
