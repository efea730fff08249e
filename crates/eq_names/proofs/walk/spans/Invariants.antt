use Rattle.std.proofs.Common.{◌≤◌, ◌++◌, List, length, drop}
use Rattle.eq_names.specs.declared.span.Span.{Span}
use Rattle.eq_names.specs.Divisions.{IsDivided, AreSpans}
use Rattle.eq_names.proofs.walk.spans.Given as goal

-- The spans so far and those of what is left are the spans of the name.
abbrev pub invariant-loop-i : goal.invariant-loop-i
invariant-loop-i l = record {
  within : l.at ≤ length l.name;
  left : IsDivided l.pieces l.name → IsDivided (drop l.i l.pieces) (drop l.at l.name);
  whole : (more : List Span) → AreSpans (drop l.i l.pieces) (drop l.at l.name) l.at more →
      AreSpans l.pieces l.name 0 (l.spans ++ more);
}
