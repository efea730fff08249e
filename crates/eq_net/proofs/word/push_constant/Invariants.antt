use Rattle.std.proofs.Common.{◌≡◌, ◌++◌, take}
use Rattle.eq_net.proofs.word.push_constant.Given as goal

abbrev pub invariant-loop-bit : goal.invariant-loop-bit
invariant-loop-bit l = l.stack.items ≡ l.fn.stack.items ++ take l.bit-index l.bits
