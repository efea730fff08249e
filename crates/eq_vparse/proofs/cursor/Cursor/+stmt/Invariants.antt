use Rattle.std.proofs.Common.{◌≡◌, ◌+◌, ◌*◌, length}
use Rattle.eq_vparse.specs.Limits.{limits}
use Rattle.eq_vparse.specs.Tests.{is_key}
use Rattle.eq_vparse.specs.Looping.{repeat_until}
use Rattle.eq_vparse.specs.StatementReading.{stmt_at, more_at, body_at}
use Rattle.eq_vlex.specs.declared.key.Key.TheVariants.{End}
use Rattle.eq_vparse.proofs.cursor.Cursor.+stmt.Given as goal

abbrev pub decreases-block : goal.decreases-block
decreases-block l = 4 * l.levels + 2

abbrev pub decreases-body : goal.decreases-body
decreases-body l = 4 * l.levels + 1

abbrev pub decreases-branches : goal.decreases-branches
decreases-branches l = 4 * l.levels + 2

abbrev pub decreases-otherwise : goal.decreases-otherwise
decreases-otherwise l = 4 * l.levels + 1

abbrev pub decreases-stmt : goal.decreases-stmt
decreases-stmt l = 4 * l.levels

abbrev pub decreases-stmt_with : goal.decreases-stmt_with
decreases-stmt_with l = 4 * l.levels + 3

abbrev pub invariant-body-loop-alloc : goal.invariant-body-loop-alloc
invariant-body-loop-alloc l = repeat_until (is_key End) (more_at (stmt_at limits l.levels)) l.body l.self ≡ body_at (stmt_at limits l.levels) l.initial.self

abbrev pub decreases-body-loop-alloc : goal.decreases-body-loop-alloc
decreases-body-loop-alloc l = length l.self
