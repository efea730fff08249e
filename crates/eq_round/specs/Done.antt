-- What the strategies come to on a partition, and the rows of that.
use Rattle.std.specs.Prelude.{◌≡◌, ℕ, ◌+◌, List, Some, length, slice_get}
use Rattle.eq_bits.specs.declared.part.Part.{Part}
use Rattle.eq_bits.specs.Replay.{meaning}
use Rattle.eq_compose.specs.declared.types.Row.{Row}
use Rattle.eq_cone.specs.Cut.{HasInputNames, HasOutputNames}
use Rattle.eq_induct.specs.Outcome.{IsOutcome}
use Rattle.eq_model.specs.Denotes.{Denotes}
use Rattle.eq_net.specs.Net.{system_of}
use Rattle.eq_net.specs.Whole.{parts_of}
use Rattle.eq_part.specs.Plans.{plan_of}
use Rattle.eq_report.specs.Rows.{row_of}
use Rattle.eq_wit.specs.Tried.{MayBeTried}
use Rattle.eq_round.specs.declared.deciding.Done.{Done}
use Rattle.eq_round.specs.declared.work.Work.{Work}

-- the part stands for partition i of the two netlists, in the names of the plan
pub record IsPartitionCut (w : Work) (i : ℕ) (part : Part) : Type 0 where
  pub denotes : Denotes (system_of (parts_of w.gold.now)) (system_of (parts_of w.gate.now))
      (plan_of (parts_of w.gold.now) (parts_of w.gate.now) w.plan.now)
      ((plan_of (parts_of w.gold.now) (parts_of w.gate.now) w.plan.now).holds i) (meaning part)
  pub named : HasOutputNames w.gold.now.nets w.plan.now i part
  pub inputs : HasInputNames w.gold.now.nets w.plan.now i part

-- the part is that of partition i, and this is what the strategies came to on it, which can be printed
pub record IsPartitionDone (w : Work) (i : ℕ) (d : Done) : Type 0 where
  pub cut : IsPartitionCut w i d.part
  pub tried : MayBeTried d.part w.strategies.now
  pub outcome : IsOutcome d.part w.strategies.now d.decided

-- these are what so many partitions from `first` on came to, in order
pub record AreDone (w : Work) (first count : ℕ) (round : List Done) : Type 0 where
  pub as_many : length round ≡ count
  pub each : (j : ℕ) (d : Done) → slice_get round j ≡ Some d → IsPartitionDone w (first + j) d

-- each row is that of what the partition at its place came to
abbrev pub AreRowsOfDone : Work → List Row → Type 0
AreRowsOfDone w rows = (q : ℕ) (row : Row) → slice_get rows q ≡ Some row →
    (d : Done) × IsPartitionDone w q d × (row ≡ row_of w.strategies.now q d.decided)
