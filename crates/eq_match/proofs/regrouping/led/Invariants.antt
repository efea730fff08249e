use Rattle.std.proofs.Common.{◌≡◌, ◌&&◌, length}
use Rattle.eq_model.specs.Frames.{values}
use Rattle.eq_match.specs.Groups.{is_held}
use Rattle.eq_match.specs.inner.Keys.{AreLed}
use Rattle.eq_match.proofs.regrouping.led.Given as goal

abbrev pub invariant-loop-position : goal.invariant-loop-position
invariant-loop-position l = record {
  count : length l.marks.items ≡ length l.leaders;
  led : AreLed l.leaders (λ j. is_held l.pairs j && values l.hits j) l.position l.marks.items;
}
