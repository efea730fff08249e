-- Cited by proofs alone; nothing here has to be believed.
-- Where propagation ends.
use Rattle.std.specs.Prelude.{◌≡◌, length}
use Rattle.eq_cdcl.specs.inner.Assignment.{Assignment}
use Rattle.eq_cdcl.specs.declared.propagation.Propagated.{Propagated}
use Rattle.eq_cdcl.specs.declared.propagation.Propagated.TheVariants.{Conflict, Settled}
use Rattle.eq_cdcl.specs.declared.watches.Watches.{Watches}

-- where no clause is falsified or unit, all literals of the trail have been visited
abbrev pub IsAtEnd : Assignment → Watches → Propagated → Type 0
IsAtEnd a w (Conflict number) = Unit {0}
IsAtEnd a w Settled = w.head ≡ length a.lits
