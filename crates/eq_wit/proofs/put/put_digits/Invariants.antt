use Rattle.std.proofs.Common.{◌≡◌, ◌++◌, take}
use Rattle.std.specs.Prelude.{map}
use Rattle.eq_wit.specs.Texts.{digit_of}
use Rattle.eq_wit.proofs.put.put_digits.Given as goal

abbrev pub invariant-loop-bit : goal.invariant-loop-bit
invariant-loop-bit l = l.out.items ≡ l.fn.out.items ++ map digit_of (take l.bit-index l.bits)
