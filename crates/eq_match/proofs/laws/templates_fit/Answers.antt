use Rattle.eq_match.proofs.FittingTemplates.{config_fits}
use Rattle.eq_match.proofs.laws.templates_fit.Goals as goal

pub returns : goal.returns
returns c = config_fits c.one_number_of_wilds.ensures c.template_or_fault.ensures c.no_faulty_template.ensures
