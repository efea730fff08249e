use Rattle.std.proofs.Common.{◌≤◌, ◌↔◌, length, drop}
use Rattle.eq_names.specs.Divisions.{IsDivided}
use Rattle.eq_names.proofs.walk.is_divided.Given as goal

-- what is left decides
abbrev pub invariant-loop-i : goal.invariant-loop-i
invariant-loop-i l = record {
  within : l.at ≤ length l.name;
  same : IsDivided (drop l.i l.pieces) (drop l.at l.name) ↔ IsDivided l.pieces l.name;
}
