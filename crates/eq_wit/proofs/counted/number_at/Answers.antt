use Rattle.std.proofs.Common.{Some, arith, ap, ◌∙◌}
use Rattle.eq_wit.proofs.counted.number_at.Goals as goal

pub known-requires : goal.known-requires
known-requires c = omega (arith, c.requires.firsts.long, c.requires.unrollable.few_cycles)

pub returns-in-Some-clause-value : goal.returns-in-Some-clause-value
returns-in-Some-clause-value c = c.requires.firsts.known c.args.k c.in-Some.number (c.known.ensures ∙ ap Some c.in-Some.is)
