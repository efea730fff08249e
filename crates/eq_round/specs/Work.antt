-- What the partitions of a plan are decided by.
use Rattle.std.specs.Prelude.{ℕ, ◌+◌, ◌*◌, ◌≤◌, List, All, fold, length, max}
use Rattle.eq_config.specs.declared.config.Strategy.{Strategy}
use Rattle.eq_config.specs.declared.limits.TheConstants.{MOST_CONFLICTS, MOST_DEPTH, MOST_STRATEGIES}
use Rattle.eq_cone.specs.Cut.{IsGraphOfNet}
use Rattle.eq_cone.specs.Paired.{ArePaired}
use Rattle.eq_net.specs.declared.net.Net.{Net}
use Rattle.eq_net.specs.Whole.{parts_of}
use Rattle.eq_part.specs.Plans.{IsPlanOf}
use Rattle.eq_round.specs.declared.work.TheConstants.{MOST_SIZE}
use Rattle.eq_round.specs.declared.work.Work.{Work}

-- the greatest depth, 0 where there is no strategy
abbrev pub deepest : List Strategy → ℕ
deepest strategies = fold (λ depth s. max depth s.depth) 0 strategies

-- what both netlists cost, once for each cycle of the longest run that is looked at
abbrev pub size_number : Net → Net → List Strategy → ℕ
size_number gold gate strategies = (gold.cost + gate.cost) * (deepest strategies + 1)

-- depth and conflicts are within the limits of a configuration
pub record IsLimited (s : Strategy) : Type 0 where
  pub some_depth : 1 ≤ s.depth
  pub depth : s.depth ≤ MOST_DEPTH
  pub some_conflicts : 1 ≤ s.conflicts
  pub conflicts : s.conflicts ≤ MOST_CONFLICTS

-- strategies of a configuration, for which the netlists aren't too large
pub record AreStrategiesFor (gold gate : Net) (strategies : List Strategy) : Type 0 where
  pub few : length strategies ≤ MOST_STRATEGIES
  pub limited : All IsLimited strategies
  pub size : size_number gold gate strategies ≤ MOST_SIZE

-- the plan is one of the two netlists, graphs and table are theirs, and the strategies may be tried on all its parts
pub record IsWork (w : Work) : Type 0 where
  pub gold : IsGraphOfNet w.gold.now w.gold_graph
  pub gate : IsGraphOfNet w.gate.now w.gate_graph
  pub plan : IsPlanOf (parts_of w.gold.now) (parts_of w.gate.now) w.plan.now
  pub paired : ArePaired w.gold_graph w.gate_graph w.plan.now w.paired
  pub strategies : AreStrategiesFor w.gold.now w.gate.now w.strategies.now
