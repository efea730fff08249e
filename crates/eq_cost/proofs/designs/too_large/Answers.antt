use Rattle.std.proofs.Common.{◌∙◌}
use Rattle.eq_verilog.specs.Costs.{design_cost}
use Rattle.eq_analysis.specs.Tabling.{trees_at}
use Rattle.eq_cost.proofs.ValueLemmas.{excess_told}
use Rattle.eq_cost.proofs.designs.too_large.Goals as goal

pub returns : goal.returns
returns c =
    record {
      ok =
          c.excess.ensures.ok
          ∙ excess_told (design_cost (trees_at c.args.tables.now) c.args.top.now) c.in_ok-cost.cost
          c.in_ok-cost.ensures.ok;
    }
