use Rattle.std.proofs.Common.{◌≡◌, length}
use Rattle.eq_match.specs.inner.Leading.{AreFirsts}
use Rattle.eq_match.proofs.classes.Classes.by_keys.Given as goal

abbrev pub invariant-loop-position : goal.invariant-loop-position
invariant-loop-position l = record {
  firsts : AreFirsts l.keys l.position l.firsts.items l.leaders;
  bound : length l.firsts.items ≡ l.bound;
}
