-- What is needed to decide the partitions of a plan.
use Rattle.std.specs.Prelude.{◌≤◌, [], length}
use Rattle.eq_net.specs.Whole.{parts_of}
use Rattle.eq_part.specs.Plans.{IsPlanOf}
use Rattle.eq_config.specs.declared.limits.TheConstants.{MOST_STRATEGIES}
use Rattle.eq_cone.specs.Cut.{IsGraphOfNet}
use Rattle.eq_cone.specs.Paired.{ArePaired}
use Rattle.eq_compose.specs.declared.types.Verdict.{Verdict}
use Rattle.eq_compose.specs.declared.types.Verdict.TheVariants.{Proved, Fail, Unknown}
use Rattle.eq_induct.specs.declared.types.PartVerdict.{PartVerdict}
use Rattle.eq_induct.specs.declared.types.PartVerdict.TheVariants as part
use Rattle.test_plans.specs.declared.row.Work.{Work}

-- the graphs are those of the netlists, and the plan and its table are theirs
pub record IsWork (w : Work) : Type 0 where
  pub gold : IsGraphOfNet w.gold.now w.gold_graph.now
  pub gate : IsGraphOfNet w.gate.now w.gate_graph.now
  pub plan : IsPlanOf (parts_of w.gold.now) (parts_of w.gate.now) w.plan.now
  pub paired : ArePaired w.gold_graph.now w.gate_graph.now w.plan.now w.paired.now
  pub few : length w.strategies.now ≤ MOST_STRATEGIES

-- what a row says of a part's verdict, without causes
abbrev pub verdict_of : PartVerdict → Verdict
verdict_of (part.Proved k n) = Proved k n
verdict_of (part.Fail k n) = Fail k n
verdict_of part.Unknown = Unknown []
