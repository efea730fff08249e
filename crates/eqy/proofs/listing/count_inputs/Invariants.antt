use Rattle.std.proofs.Common.{◌≡◌, ◌+◌, ◌≤◌, drop}
use Rattle.eqy.specs.Inputs.{inputs_of}
use Rattle.eqy.proofs.listing.count_inputs.Given as goal

abbrev pub invariant-loop-port : goal.invariant-loop-port
invariant-loop-port l = record {
  counted : l.count + inputs_of (drop l.port-index l.ports) ≡ inputs_of l.ports;
  few : l.count ≤ l.port-index;
}
