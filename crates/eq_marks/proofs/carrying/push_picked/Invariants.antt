use Rattle.std.proofs.Common.{◌≡◌, ◌++◌, map, take}
use Rattle.eq_net.specs.declared.types.WordBit.{WordBit}
use Rattle.eq_marks.specs.inner.Carrying.{rows_mark}
use Rattle.eq_marks.proofs.carrying.push_picked.Given as goal

abbrev pub invariant-loop-bit : goal.invariant-loop-bit
invariant-loop-bit l = l.stack.items ≡ l.fn.stack.items ++ map (λ (b : WordBit). rows_mark l.rows b.word b.bit) (take
    l.bit-index l.bits)
