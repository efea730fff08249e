use Rattle.eq_match.specs.inner.Indexing.{AreDriven}
use Rattle.eq_match.proofs.index.are_driven.Given as goal

abbrev pub invariant-loop-j : goal.invariant-loop-j
invariant-loop-j l = AreDriven l.drivers l.first l.j
