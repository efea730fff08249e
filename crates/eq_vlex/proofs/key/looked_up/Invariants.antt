use Rattle.std.proofs.Common.{◌≡◌, length, map}
use Rattle.eq_vlex.specs.Words as spec
use Rattle.eq_vlex.proofs.key.looked_up.Given as goal

-- the rest of the table has the answer
abbrev pub invariant-loop-table : goal.invariant-loop-table
invariant-loop-table l = spec.looked_up (map (λ row. (row.0.now, row.1)) l.table) l.word ≡ spec.looked_up (map (λ row. (row.0.now, row.1)) l.initial.table) l.word

abbrev pub decreases-loop-table : goal.decreases-loop-table
decreases-loop-table l = length l.table
