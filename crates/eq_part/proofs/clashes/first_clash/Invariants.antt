use Rattle.std.proofs.Common.{◌≡◌, ◌≤◌, ℕ, map, take}
use Rattle.eq_part.specs.declared.types.Partition.{Partition}
use Rattle.eq_part.specs.Clashes.{HaveOneName}
use Rattle.eq_part.proofs.clashes.first_clash.Given as goal

-- the names so far, all different
abbrev pub invariant-loop-q : goal.invariant-loop-q
invariant-loop-q l = (l.table ≡ map (λ (p : Partition). p.name) (take l.q l.parts)) ×
    ((s t : ℕ) → HaveOneName l.parts s t → l.q ≤ t)
