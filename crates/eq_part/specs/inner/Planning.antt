-- Cited by proofs alone; nothing here has to be believed.
-- Partitions that are classes by leaders.
use Rattle.std.specs.Prelude.{◌≡◌, ℕ, List, map, length}
use Rattle.eq_match.specs.declared.types.Pair.{Pair}
use Rattle.eq_match.specs.Classes.{classes}
use Rattle.eq_match.specs.Groups.{is_held}
use Rattle.eq_match.specs.Leaders.{one_leader}
use Rattle.eq_part.specs.declared.types.Partition.{Partition}

-- the partitions have the classes by some leaders as outputs
abbrev pub AreClasses : List Pair → List Partition → Type 0
AreClasses pairs parts = (leaders : List ℕ) × (map (λ (q : Partition). q.outputs) parts ≡
    classes (length pairs) (is_held pairs) (one_leader leaders))
