use Rattle.std.proofs.Common.{◌≡◌, ◌<◌, length}
use Rattle.eq_marks.specs.inner.Clocking.{AreKnown, leads}
use Rattle.eq_marks.proofs.clocking.keep.Given as goal

abbrev pub invariant-loop : goal.invariant-loop
invariant-loop l = record {
  there : l.at < length l.copies;
  same : l.leads ≡ leads l.copies l.clock l.at;
  known : AreKnown l.copies l.clock l.known;
}
