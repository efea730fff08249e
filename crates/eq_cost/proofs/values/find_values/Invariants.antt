use Rattle.eq_analysis.specs.Tabling.{trees_at}
use Rattle.eq_cost.specs.inner.Valuing.{AreValued}
use Rattle.eq_cost.proofs.values.find_values.Given as goal

abbrev pub invariant-loop-place : goal.invariant-loop-place
invariant-loop-place l =
    AreValued (trees_at l.tables) 0 l.fn.values.items → AreValued (trees_at l.tables) l.place-index l.values.items
