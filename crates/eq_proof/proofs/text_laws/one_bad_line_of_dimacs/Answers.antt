use Rattle.eq_proof.specs.Dimacs.{IsDimacs}
use Rattle.eq_proof.proofs.Lines.{one_bad_line}
use Rattle.eq_proof.proofs.text_laws.one_bad_line_of_dimacs.Goals as goal

pub returns : goal.returns
returns c = λ text m n. one_bad_line IsDimacs text m n
