use Rattle.std.proofs.Common.{◌≡◌, [], length}
use Rattle.eq_vparse.specs.Limits.{limits}
use Rattle.eq_vparse.specs.Looping.{comma_list}
use Rattle.eq_vparse.specs.ConnectionReading.{term_at}
use Rattle.eq_vparse.proofs.cursor.Cursor.terms.Given as goal

abbrev pub invariant-loop-terms : goal.invariant-loop-terms
invariant-loop-terms l = comma_list (term_at limits) l.terms l.self ≡ comma_list (term_at limits) [] l.initial.self

abbrev pub decreases-loop-terms : goal.decreases-loop-terms
decreases-loop-terms l = length l.self
