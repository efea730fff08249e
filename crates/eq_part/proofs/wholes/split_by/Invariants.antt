use Rattle.std.proofs.Common.{◌≡◌, length}
use Rattle.eq_part.specs.inner.Wholes.{AreSplit}
use Rattle.eq_part.proofs.wholes.split_by.Given as goal

abbrev pub invariant-loop-position : goal.invariant-loop-position
invariant-loop-position l = record {
  count : length l.split.items ≡ length l.kept;
  split : AreSplit l.pairs l.leaders l.kept (length l.kept) l.position l.split.items;
}
