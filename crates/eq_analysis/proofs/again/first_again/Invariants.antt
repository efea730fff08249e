use Rattle.std.proofs.Common.{map}
use Rattle.eq_analysis.proofs.AgainLemmas.{IsAgain}
use Rattle.eq_analysis.proofs.again.first_again.Given as goal

abbrev pub invariant-loop-name : goal.invariant-loop-name
invariant-loop-name l = IsAgain (map (λ n. n.now) l.names) l.name-index l.table
