use Rattle.std.proofs.Common.{◌≡◌, length, take}
use Rattle.test_plans.specs.Designs.{draft_of}
use Rattle.test_plans.proofs.designs.drafted.Given as goal

abbrev pub invariant-loop-s : goal.invariant-loop-s
invariant-loop-s l = record {
  count : length l.draft.nets ≡ l.s-index;
  is : l.draft ≡ draft_of (take l.s-index l.signals);
}
