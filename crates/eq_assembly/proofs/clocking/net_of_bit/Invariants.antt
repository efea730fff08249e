use Rattle.std.proofs.Common.{◌≡◌, ◌+◌, ◌≤◌}
use Rattle.eq_net.specs.Net.{offset}
use Rattle.eq_assembly.proofs.clocking.net_of_bit.Given as goal

abbrev pub invariant-loop-place : goal.invariant-loop-place
invariant-loop-place l = record {
  at : offset l.nets l.place + l.left ≡ l.fn.bit;
  few : l.place + l.left ≤ l.fn.bit;
}
