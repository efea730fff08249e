use Rattle.std.proofs.Common.{◌≡◌}
use Rattle.eq_marks.specs.inner.Marks.{mixed_all, part}
use Rattle.eq_marks.proofs.marks.mix_all.Given as goal

abbrev pub invariant-loop-j : goal.invariant-loop-j
invariant-loop-j l = l.all ≡ mixed_all l.way l.j (part l.stack.items l.from)
