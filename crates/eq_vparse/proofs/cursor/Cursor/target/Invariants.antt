use Rattle.std.proofs.Common.{◌≡◌, length}
use Rattle.eq_vparse.specs.Limits.{limits}
use Rattle.eq_vparse.specs.Looping.{loop}
use Rattle.eq_vparse.specs.TargetReading.{braced, wanted, target_at}
use Rattle.eq_vparse.proofs.cursor.Cursor.target.Given as goal

abbrev pub invariant-loop-braces : goal.invariant-loop-braces
invariant-loop-braces l = loop wanted (braced l.braces) l.self ≡ target_at limits.marks l.initial.self

abbrev pub decreases-loop-braces : goal.decreases-loop-braces
decreases-loop-braces l = length l.self
