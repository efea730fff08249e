-- Cited by proofs alone; nothing here has to be believed.
-- Tables are inverse, and tell owners, in one way at most.
use Rattle.std.specs.Prelude.{ℕ, List, Option}
use Rattle.std.proofs.Props.{props}
use Rattle.eq_match.specs.declared.types.Pair.{Pair}
use Rattle.eq_part.specs.declared.types.Partition.{Partition}
use Rattle.eq_part.specs.Tables.{AreInverse, AreOwners}

pub AreInverse-prop : (bits : List ℕ) (pairs : List (Option ℕ)) → IsProp (AreInverse bits pairs)
AreInverse-prop bits pairs = hlevel props

pub AreOwners-prop : (pairs : List Pair) (parts : List Partition) (owners : List (Option ℕ)) →
    IsProp (AreOwners pairs parts owners)
AreOwners-prop pairs parts owners = hlevel props
