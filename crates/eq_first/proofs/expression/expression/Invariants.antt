use Rattle.std.proofs.Common.{◌≡◌, [], drop}
use Rattle.eq_first.specs.Lexing.{tokens_in}
use Rattle.eq_first.specs.Machine.{run, wanted}
use Rattle.eq_first.specs.Machines.{state_of}
use Rattle.eq_first.proofs.expression.expression.Given as goal

abbrev pub invariant-loop-token : goal.invariant-loop-token
invariant-loop-token l = run l.header.ports (state_of l.state) (tokens_in (drop l.token-index l.tokens)) ≡ run l.header.ports (wanted []) (tokens_in l.tokens)
