use Rattle.std.proofs.Common.{length}
use Rattle.eq_first.specs.Lexing.{tokens_in}
use Rattle.eq_first.proofs.Lexed.{Cut}
use Rattle.eq_first.proofs.token.tokens.Given as goal

abbrev pub invariant-loop-rest : goal.invariant-loop-rest
invariant-loop-rest l = Cut l.text l.rest (tokens_in l.found.items)

abbrev pub decreases-loop-rest : goal.decreases-loop-rest
decreases-loop-rest l = length l.rest
