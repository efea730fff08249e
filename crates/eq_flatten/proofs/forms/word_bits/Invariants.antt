use Rattle.std.proofs.Common.{◌≡◌}
use Rattle.eq_flatten.specs.Forms as spec
use Rattle.eq_flatten.proofs.forms.word_bits.Given as goal

abbrev pub invariant-loop-bit : goal.invariant-loop-bit
invariant-loop-bit l = l.bits ≡ spec.word_bits l.word l.width l.bit
