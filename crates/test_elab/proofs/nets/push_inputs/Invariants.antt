use Rattle.std.proofs.Common.{◌≡◌, ◌++◌}
use Rattle.eq_net.specs.declared.types.Driver.TheVariants.{Input}
use Rattle.test_elab.specs.Made.{copies}
use Rattle.test_elab.proofs.nets.push_inputs.Given as goal

abbrev pub invariant-loop : goal.invariant-loop
invariant-loop l = l.out ≡ l.fn.out ++ copies Input l.counter
