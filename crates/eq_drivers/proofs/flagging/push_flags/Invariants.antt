use Rattle.std.proofs.Common.{◌≡◌, ◌++◌, replicate}
use Rattle.eq_drivers.proofs.flagging.push_flags.Given as goal

abbrev pub invariant-loop : goal.invariant-loop
invariant-loop l = l.flags.items ≡ l.fn.flags.items ++ replicate l.counter l.flag
