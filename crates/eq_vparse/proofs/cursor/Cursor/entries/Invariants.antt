use Rattle.std.proofs.Common.{◌≡◌, length}
use Rattle.eq_vparse.specs.Limits.{limits}
use Rattle.eq_vparse.specs.Looping.{comma_list}
use Rattle.eq_vparse.specs.ItemReading.{entry_at}
use Rattle.eq_vparse.proofs.cursor.Cursor.entries.Given as goal

abbrev pub invariant-loop-self : goal.invariant-loop-self
invariant-loop-self l = comma_list (entry_at limits l.head) l.items l.self ≡ comma_list (entry_at limits l.head) l.initial.items l.initial.self

abbrev pub decreases-loop-self : goal.decreases-loop-self
decreases-loop-self l = length l.self
