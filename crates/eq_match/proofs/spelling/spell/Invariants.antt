use Rattle.std.proofs.Common.{◌≡◌}
use Rattle.eq_net.specs.Whole.{parts_of}
use Rattle.eq_match.specs.Pairs.{bits_of_nets}
use Rattle.eq_match.specs.inner.Tables.{pairing_of}
use Rattle.eq_match.proofs.spelling.spell.Given as goal

abbrev pub invariant-loop-k : goal.invariant-loop-k
invariant-loop-k l = l.pairs ≡ bits_of_nets (parts_of l.gold) (pairing_of l.partners) l.k
