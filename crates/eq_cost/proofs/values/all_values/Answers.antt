use Rattle.std.proofs.Common.{ℕ, List, Option, length, sym, subst}
use Rattle.eq_analysis.specs.Tabling.{trees_at}
use Rattle.eq_cost.specs.inner.Valuing.{AreValued}
use Rattle.eq_cost.proofs.ValueLemmas.{none_valued}
use Rattle.eq_cost.proofs.values.all_values.Goals as goal

pub returns : goal.returns
returns c =
    let all = trees_at c.args.tables.now in
    c.in_ok-find_values.ensures
    (subst (λ (vs : List (Option ℕ)). AreValued all 0 vs) (sym c.in_ok-values.ensures)
    (none_valued all (length c.args.tables.now)))
