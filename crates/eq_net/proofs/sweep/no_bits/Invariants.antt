use Rattle.std.proofs.Common.{◌≡◌, length}
use Rattle.eq_net.proofs.sweep.no_bits.Given as goal

abbrev pub invariant-loop : goal.invariant-loop
invariant-loop l = length l.words.items ≡ l.counter
