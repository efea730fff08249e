use Rattle.std.proofs.Common.{◌≡◌, take}
use Rattle.eqy.proofs.pair.are_same_ports.Given as goal

abbrev pub invariant-loop-k : goal.invariant-loop-k
invariant-loop-k l = take l.k l.gold ≡ take l.k l.gate
