use Rattle.std.proofs.Common.{◌≡◌, ◌+◌, ℕ, List, Option, Some, Bor, slice_get, sym, ap, subst, ◌∙◌}
use Rattle.std.specs.Prelude.{option_map}
use Rattle.eq_analysis.specs.declared.tables.Table.{Table}
use Rattle.eq_analysis.specs.Tabling.{tree_at, trees_at}
use Rattle.eq_cost.specs.inner.Valuing.{AreValued}
use Rattle.eq_cost.proofs.ValueLemmas.{found_value, valued_later, valued_with}
use Rattle.eq_cost.proofs.values.find_value.Goals as goal

pub returns-in_ok-value-in-Some : goal.returns-in_ok-value-in-Some
returns-in_ok-value-in-Some c = λ k are.
    let all = trees_at c.args.tables.now in
    let old = c.args.values.now.items in
    let m = tree_at c.in-Some.table.now in
    let there : slice_get all c.args.place ≡ Some m =
    sym c.table_at.ensures ∙ ap (λ (o : Option (Bor Table)). option_map (λ t. tree_at t.now) o) c.in-Some.is in
    subst (λ (vs : List (Option ℕ)). AreValued all (k + 1) vs) (sym c.put.ensures)
    (valued_with all k c.args.place old c.in_ok-value-in-Some.value m are there
    (λ j v is most. found_value all c.as_slice.result.now m c.in_ok-value-in-Some.value c.in_ok-value-in-Some.ensures k
    (subst (λ (vs : List (Option ℕ)). AreValued all k vs) (sym c.as_slice.ensures.value) are) j v is most))

pub returns-in-None : goal.returns-in-None
returns-in-None c = λ k are. valued_later (trees_at c.args.tables.now) k c.args.values.now.items are
