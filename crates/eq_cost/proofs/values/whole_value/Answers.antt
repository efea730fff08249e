use Rattle.eq_analysis.specs.Tabling.{tree_at, trees_at}
use Rattle.eq_cost.proofs.ValueLemmas.{value_above}
use Rattle.eq_cost.proofs.values.whole_value.Goals as goal

pub returns : goal.returns
returns c = λ k j each most.
    value_above (trees_at c.args.tables.now) (tree_at c.args.table.now) c.in_ok-own.own c.args.inside c.sum-both.result
    c.sum.result k j c.in_ok-own.ensures each c.sum-both.ensures c.sum.ensures most
