use Rattle.std.proofs.Common.{arith}
use Rattle.eq_config.proofs.Numerals.{no_long_number}
use Rattle.eq_config.proofs.number.number_line.Goals as goal

pub returns-then-not-is_short-clause-fault : goal.returns-then-not-is_short-clause-fault
returns-then-not-is_short-clause-fault c =
    no_long_number c.args.most _ c.in-Some.word.now (omega arith) c.in-Some.ensures.word (λ short. let yes' = c.is_short.ensures.1 short in absurd (cc))
