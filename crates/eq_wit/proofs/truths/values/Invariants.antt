use Rattle.std.proofs.Common.{◌≡◌, take, map}
use Rattle.eq_wit.specs.Texts.{digit_of}
use Rattle.eq_wit.proofs.truths.values.Given as goal

abbrev pub invariant-loop-byte : goal.invariant-loop-byte
invariant-loop-byte l = take l.byte-index l.word ≡ map digit_of l.bits
