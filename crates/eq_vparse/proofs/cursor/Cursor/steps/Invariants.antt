use Rattle.std.proofs.Common.{◌≡◌, length}
use Rattle.eq_vparse.specs.Looping.{loop}
use Rattle.eq_vparse.specs.Machine.{turn_at, expr_at}
use Rattle.eq_vparse.proofs.cursor.Cursor.steps.Given as goal

abbrev pub invariant-loop-next : goal.invariant-loop-next
invariant-loop-next l = loop turn_at l.state l.self ≡ expr_at 1000 l.initial.self

abbrev pub decreases-loop-next : goal.decreases-loop-next
decreases-loop-next l = length l.self
