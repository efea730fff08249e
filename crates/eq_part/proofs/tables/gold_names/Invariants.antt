use Rattle.std.proofs.Common.{◌≡◌, take, map}
use Rattle.eq_part.proofs.tables.gold_names.Given as goal

abbrev pub invariant-loop-pair : goal.invariant-loop-pair
invariant-loop-pair l = l.names ≡ map (λ p. p.gold) (take l.pair-index l.pairs)
