use Rattle.std.proofs.Common.{◌≡◌, length}
use Rattle.eq_vparse.specs.Limits.{limits}
use Rattle.eq_vparse.specs.Tests.{is_end}
use Rattle.eq_vparse.specs.Looping.{repeat_until}
use Rattle.eq_vparse.specs.SourceReading.{more_designs_at}
use Rattle.eq_vparse.proofs.cursor.Cursor.designs.Given as goal

abbrev pub invariant-loop-alloc : goal.invariant-loop-alloc
invariant-loop-alloc l = repeat_until is_end (more_designs_at limits) l.modules l.self ≡ repeat_until is_end (more_designs_at limits) l.initial.modules l.initial.self

abbrev pub decreases-loop-alloc : goal.decreases-loop-alloc
decreases-loop-alloc l = length l.self
