use Rattle.std.proofs.Common.{◌≡◌, ◌++◌}
use Rattle.eq_net.specs.declared.types.Driver.TheVariants.{Expr}
use Rattle.test_series.specs.Lists.{listed}
use Rattle.test_series.proofs.stages.push_driven.Given as goal

abbrev pub invariant-loop-bit : goal.invariant-loop-bit
invariant-loop-bit l = l.out ≡ l.fn.out ++ listed (Expr l.word) l.bit
