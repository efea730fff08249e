use Rattle.std.proofs.Common.{◌≡◌, length}
use Rattle.eq_net.specs.inner.Circuits.{AreComputed}
use Rattle.eq_net.proofs.cells.walk.walk.Given as goal

abbrev pub invariant-loop : goal.invariant-loop
invariant-loop l = record {
  size : length l.values.items ≡ length l.cells;
  computed : AreComputed l.links l.cells l.values.items;
}
