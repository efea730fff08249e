use Rattle.std.proofs.Common.{◌≡◌, ◌+◌, ◌≤◌, drop}
use Rattle.eq_net.specs.Held.{input_count}
use Rattle.eq_net.proofs.net.count_inputs.Given as goal

abbrev pub invariant-loop-driver : goal.invariant-loop-driver
invariant-loop-driver l = record {
  counted : l.count + input_count (drop l.driver-index l.drivers) ≡ input_count l.drivers;
  few : l.count ≤ l.driver-index;
}
