use Rattle.std.proofs.Common.{◌≡◌, ◌++◌}
use Rattle.eq_match.specs.Pairs.{bits_of_pair}
use Rattle.eq_match.proofs.spelling.push_bits.Given as goal

abbrev pub invariant-loop-bit : goal.invariant-loop-bit
invariant-loop-bit l = l.pairs ≡ l.fn.pairs ++ bits_of_pair l.input l.k l.partner l.bit
