use Rattle.std.proofs.Common.{◌≡◌, [], length}
use Rattle.eq_vparse.specs.Limits.{limits}
use Rattle.eq_vparse.specs.Looping.{comma_list}
use Rattle.eq_vparse.specs.ConnectionReading.{more_named_at}
use Rattle.eq_vparse.proofs.cursor.Cursor.by_name.Given as goal

abbrev pub invariant-loop-conns : goal.invariant-loop-conns
invariant-loop-conns l = comma_list (more_named_at limits) l.conns l.self ≡ comma_list (more_named_at limits) [] l.initial.self

abbrev pub decreases-loop-conns : goal.decreases-loop-conns
decreases-loop-conns l = length l.self
