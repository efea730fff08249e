use Rattle.std.proofs.Common.{◌≡◌, All, length}
use Rattle.test_netlists.proofs.bits.run.Given as goal

abbrev pub invariant-loop-input : goal.invariant-loop-input
invariant-loop-input l = record {
  each : All (λ frame. length frame ≡ 1) l.frames;
  count : length l.frames ≡ l.input-index;
}
