use Rattle.std.proofs.Common.{◌≡◌, length, take}
use Rattle.test_elab.specs.Made.{draft_of}
use Rattle.test_elab.proofs.nets.drafted.Given as goal

abbrev pub invariant-loop-line : goal.invariant-loop-line
invariant-loop-line l = record {
  count : length l.draft.nets ≡ l.line-index;
  is : l.draft ≡ draft_of (take l.line-index l.lines);
}
