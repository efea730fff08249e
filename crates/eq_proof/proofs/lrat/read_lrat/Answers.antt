use Rattle.eq_proof.proofs.LogTexts.{read_again}
use Rattle.eq_proof.proofs.lrat.read_lrat.Goals as goal

pub returns-clause-again : goal.returns-clause-again
returns-clause-again c = read_again c.args.first c.args.text.now c.log_of.result c.log_of.ensures.text c.log_of.ensures.numbered c.log_of.ensures.bad_line
