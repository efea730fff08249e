use Rattle.std.proofs.Common.{◌≡◌, length, take}
use Rattle.test_plans.specs.Cells.{draft_of}
use Rattle.test_plans.proofs.cells.drafted.Given as goal

abbrev pub invariant-loop-cell : goal.invariant-loop-cell
invariant-loop-cell l = record {
  count : length l.draft.nets ≡ l.cell-index;
  is : l.draft ≡ draft_of (take l.cell-index l.cells);
}
