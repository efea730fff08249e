use Rattle.std.proofs.Common.{◌≡◌, ◌≤◌, ◌+◌, ◌++◌, length}
use Rattle.std.specs.Prelude.{All}
use Rattle.eq_proof.specs.Lrat.{lrat_text, IsStep}
use Rattle.eq_proof.proofs.lrat.log_of.Given as goal

abbrev pub invariant-loop-rest : goal.invariant-loop-rest
invariant-loop-rest l = record {
  read : l.text ≡ lrat_text l.first l.log ++ l.rest;
  short : length l.log + length l.rest ≤ length l.text;
  steps : All IsStep l.log;
}

abbrev pub decreases-loop-rest : goal.decreases-loop-rest
decreases-loop-rest l = length l.rest
