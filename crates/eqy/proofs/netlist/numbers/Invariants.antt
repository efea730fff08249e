use Rattle.std.proofs.Common.{◌≡◌, ◌-◌, ◌++◌}
use Rattle.eqy.specs.Netlist.{numbers_from}
use Rattle.eqy.proofs.netlist.numbers.Given as goal

abbrev pub invariant-loop-number : goal.invariant-loop-number
invariant-loop-number l = l.numbers ++ numbers_from l.number (l.count - l.number) ≡ numbers_from 0 l.count
