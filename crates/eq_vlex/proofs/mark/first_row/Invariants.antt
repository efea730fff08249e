use Rattle.std.proofs.Common.{◌≡◌, length, map}
use Rattle.eq_vlex.specs.Marks as spec
use Rattle.eq_vlex.proofs.mark.first_row.Given as goal

-- the rest of the table has the answer
abbrev pub invariant-loop-table : goal.invariant-loop-table
invariant-loop-table l = spec.first_row (map (λ row. (row.0.now, row.1)) l.table) l.text ≡ spec.first_row (map (λ row. (row.0.now, row.1)) l.initial.table) l.text

abbrev pub decreases-loop-table : goal.decreases-loop-table
decreases-loop-table l = length l.table
