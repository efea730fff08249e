use Rattle.eq_marks.proofs.MarkSteps.{IsMixedDown}
use Rattle.eq_marks.proofs.marks.mix_down.Given as goal

abbrev pub invariant-loop-turn : goal.invariant-loop-turn
invariant-loop-turn l = IsMixedDown l.way l.count l.turn l.from l.all l.fn.stack.items l.stack.items
