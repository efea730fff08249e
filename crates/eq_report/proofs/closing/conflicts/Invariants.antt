use Rattle.std.proofs.Common.{◌≡◌, ◌*◌, ◌≤◌, ◌^◌, take}
use Rattle.eq_report.specs.Closing.{conflicts_of}
use Rattle.eq_report.proofs.closing.conflicts.Given as goal

abbrev pub invariant-loop-row : goal.invariant-loop-row
invariant-loop-row l = record {
  sum : l.sum ≡ conflicts_of (take l.row-index l.rows);
  bound : l.sum ≤ l.row-index * 2 ^ 64;
}
