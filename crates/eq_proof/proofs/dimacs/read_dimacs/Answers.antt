use Rattle.eq_proof.proofs.FormulaTexts.{read_again}
use Rattle.eq_proof.proofs.dimacs.read_dimacs.Goals as goal

pub returns-clause-again : goal.returns-clause-again
returns-clause-again c = read_again c.args.text.now c.formula_of.result c.formula_of.ensures.text c.formula_of.ensures.formula c.formula_of.ensures.bad_line
