use Rattle.std.proofs.Common.{◌≡◌, length, take}
use Rattle.test_plans.specs.Chains.{draft_of}
use Rattle.test_plans.proofs.chains.drafted.Given as goal

abbrev pub invariant-loop-wire : goal.invariant-loop-wire
invariant-loop-wire l = record {
  count : length l.draft.nets ≡ l.wire-index;
  is : l.draft ≡ draft_of (take l.wire-index l.wires);
}
