use Rattle.std.proofs.Common.{◌≡◌, [], length}
use Rattle.eq_vparse.specs.Looping.{comma_list}
use Rattle.eq_vparse.specs.HeaderReading.{port_name_at}
use Rattle.eq_vparse.proofs.cursor.Cursor.port_names.Given as goal

abbrev pub invariant-loop-names : goal.invariant-loop-names
invariant-loop-names l = comma_list port_name_at l.names l.self ≡ comma_list port_name_at [] l.initial.self

abbrev pub decreases-loop-names : goal.decreases-loop-names
decreases-loop-names l = length l.self
