-- When a configuration makes no plan.
use Rattle.std.specs.Prelude.{◌≡◌, ℕ, ◌<◌, ◌≤◌, List, length}
use Rattle.eq_names.specs.declared.BitName.{BitName}
use Rattle.eq_net.specs.Net.{Parts}
use Rattle.eq_config.specs.declared.config.Config.{Config}
use Rattle.eq_match.specs.declared.types.Pair.{Pair}
use Rattle.eq_part.specs.declared.limits.TheConstants.{MOST_PARTITIONS}
use Rattle.eq_part.specs.declared.types.Partition.{Partition}
use Rattle.eq_part.specs.Clashes.{ClashAt}
use Rattle.eq_part.specs.Partitions.{ArePartitions}

-- so many partitions, more than may be
pub record MakesTooMany (gold : Parts) (pairs : List Pair) (groups : List (List ℕ)) (c : Config) (number : ℕ) : Type 0 where
  pub parts : List Partition
  pub are : ArePartitions gold pairs groups c parts
  pub count : number ≡ length parts
  pub many : MOST_PARTITIONS < number

-- not too many, but two of one name, of which these are the first bits
pub record MakesSameName (gold : Parts) (pairs : List Pair) (groups : List (List ℕ)) (c : Config)
    (first second : BitName) : Type 0 where
  pub parts : List Partition
  pub are : ArePartitions gold pairs groups c parts
  pub few : length parts ≤ MOST_PARTITIONS
  pub clash : ClashAt pairs parts first second
