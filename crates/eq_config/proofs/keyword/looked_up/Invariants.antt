use Rattle.std.proofs.Common.{◌≡◌, length, map}
use Rattle.eq_config.specs.Keywords as spec
use Rattle.eq_config.proofs.keyword.looked_up.Given as goal

-- the rest of the table has the answer
abbrev pub invariant-loop-table : goal.invariant-loop-table
invariant-loop-table g l = spec.looked_up (map (λ row. (row.0.now, row.1)) l.table) l.word ≡ spec.looked_up (map (λ row. (row.0.now, row.1)) l.initial.table) l.word

abbrev pub decreases-loop-table : goal.decreases-loop-table
decreases-loop-table g l = length l.table
