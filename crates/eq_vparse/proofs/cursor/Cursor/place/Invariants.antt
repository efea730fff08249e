use Rattle.std.proofs.Common.{◌≡◌, reverse, length}
use Rattle.eq_vparse.specs.TargetReading.{place}
use Rattle.eq_vparse.proofs.cursor.Cursor.place.Given as goal

abbrev pub invariant-loop-parts : goal.invariant-loop-parts
invariant-loop-parts l = place l.braces.room l.part (reverse l.braces.parts) l.self ≡ place l.initial.braces.room l.initial.part (reverse l.initial.braces.parts) l.initial.self

abbrev pub decreases-loop-parts : goal.decreases-loop-parts
decreases-loop-parts l = length l.braces.parts
