-- Mirrors src/seen.rt; nothing here has to be believed.
use Rattle.std.specs.Prelude.{◌≡◌, ℕ, List}
use Rattle.eq_verilog.specs.Costs.{different}
use Rattle.eq_analysis.specs.Marking.{AreMarked}
use Rattle.eq_cost.specs.Counts.{told}
use Rattle.eq_cost.specs.declared.seen.Seen.{Seen}

-- just these bits were seen, and are counted once each
pub record IsCounted (seen : Seen) (bits : List ℕ) : Type 0 where
  pub marks : AreMarked seen.marks bits
  pub count : told seen.count ≡ told (different bits)
