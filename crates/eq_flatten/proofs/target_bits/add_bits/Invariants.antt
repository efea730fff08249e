use Rattle.std.proofs.Common.{◌≡◌, ◌++◌, take}
use Rattle.eq_flatten.proofs.target_bits.add_bits.Given as goal

abbrev pub invariant-loop-bit : goal.invariant-loop-bit
invariant-loop-bit l = l.bits ≡ l.fn.bits ++ take l.bit-index l.more
