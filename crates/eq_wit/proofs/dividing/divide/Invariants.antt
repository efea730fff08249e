use Rattle.std.proofs.Common.{◌≡◌, ◌++◌, length}
use Rattle.eq_wit.specs.inner.Judging.{words_in}
use Rattle.eq_wit.proofs.dividing.divide.Given as goal

-- the words so far, and those of what is left
abbrev pub invariant-loop-after : goal.invariant-loop-after
invariant-loop-after l = l.words ++ words_in l.rest ≡ words_in l.line

abbrev pub decreases-loop-after : goal.decreases-loop-after
decreases-loop-after l = length l.rest
