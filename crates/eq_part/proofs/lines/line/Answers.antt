use Rattle.std.proofs.Common.{subst, sym}
use Rattle.std.proofs.lemmas.Result.{IfOk-weaker}
use Rattle.eq_config.specs.declared.config.PartRule.{PartRule}
use Rattle.eq_net.specs.Whole.{parts_of}
use Rattle.eq_match.specs.Fitting.{PartRuleFits}
use Rattle.eq_part.specs.Partitions.{RuleMakes}
use Rattle.eq_part.specs.inner.States.{division_of}
use Rattle.eq_part.proofs.lines.line.Goals as goal

pub rename-requires-clause-fits : goal.rename-requires-clause-fits
rename-requires-clause-fits c = subst PartRuleFits c.in-Rename.is c.requires.fits

pub returns-in-Path-clause-line : goal.returns-in-Path-clause-line
returns-in-Path-clause-line c = IfOk-weaker c.unite_between.result _ _
    (λ after makes. subst (λ (r : PartRule). RuleMakes (parts_of c.args.gold.now) c.args.pairs.now r (division_of c.args.state) (division_of after))
    (sym c.in-Path.is) makes) c.unite_between.ensures.line
