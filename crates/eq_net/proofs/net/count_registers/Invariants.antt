use Rattle.std.proofs.Common.{◌≡◌, ◌+◌, ◌≤◌, drop}
use Rattle.eq_net.specs.Held.{register_count}
use Rattle.eq_net.proofs.net.count_registers.Given as goal

abbrev pub invariant-loop-driver : goal.invariant-loop-driver
invariant-loop-driver l = record {
  counted : l.count + register_count (drop l.driver-index l.drivers) ≡ register_count l.drivers;
  few : l.count ≤ l.driver-index;
}
