use Rattle.std.proofs.Common.{◌≡◌, length}
use Rattle.eq_match.specs.Groups.{is_held}
use Rattle.eq_match.specs.inner.Begun.{AreBegun}
use Rattle.eq_match.proofs.listing.classes_of.Given as goal

abbrev pub invariant-loop-position : goal.invariant-loop-position
invariant-loop-position l = record {
  begun : AreBegun (is_held l.pairs) l.division l.position l.slots.items l.lists.items;
  bound : length l.slots.items ≡ length l.pairs;
}
