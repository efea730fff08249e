use Rattle.eq_proof.specs.Lrat.{IsLrat}
use Rattle.eq_proof.proofs.Lines.{one_bad_line}
use Rattle.eq_proof.proofs.text_laws.one_bad_line_of_lrat.Goals as goal

pub returns : goal.returns
returns c = λ first text m n. one_bad_line (IsLrat first) text m n
