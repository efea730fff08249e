-- Mirrors src/comparing.rt; nothing here has to be believed.
-- The rows of the first partitions of a plan.
use Rattle.std.specs.Prelude.{◌≡◌, ℕ, List, Some, length, slice_get}
use Rattle.eq_net.specs.Net.{Parts}
use Rattle.eq_part.specs.declared.plan.Plan.{Plan}
use Rattle.eq_compose.specs.declared.types.Row.{Row}
use Rattle.eq_compose.specs.Rows.{AreRight}

pub record AreRowsSoFar (gold gate : Parts) (plan : Plan) (n : ℕ) (rows : List Row) : Type 0 where
  pub count : length rows ≡ n
  pub order : (q : ℕ) (row : Row) → slice_get rows q ≡ Some row → row.part ≡ q
  pub right : AreRight gold gate plan rows
