use Rattle.std.proofs.Common.{subst}
use Rattle.eq_match.specs.Fitting.{RuleFits}
use Rattle.eq_match.proofs.lines.apply_rule.Goals as goal

pub gold_match-requires-clause-fits : goal.gold_match-requires-clause-fits
gold_match-requires-clause-fits c = subst RuleFits c.in-GoldMatch.is c.requires.fits

pub gate_match-requires-clause-fits : goal.gate_match-requires-clause-fits
gate_match-requires-clause-fits c = subst RuleFits c.in-GateMatch.is c.requires.fits
