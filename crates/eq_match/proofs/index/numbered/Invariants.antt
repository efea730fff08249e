use Rattle.std.proofs.Common.{◌≡◌, map, take}
use Rattle.eq_match.proofs.index.numbered.Given as goal

abbrev pub invariant-loop-net : goal.invariant-loop-net
invariant-loop-net l = l.names ≡ map (λ n. n.name) (take l.net-index l.nets)
