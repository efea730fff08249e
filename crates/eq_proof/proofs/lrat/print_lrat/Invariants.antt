use Rattle.std.proofs.Common.{◌≡◌, take}
use Rattle.std.specs.Prelude.{All}
use Rattle.eq_proof.specs.Lrat.{lrat_text, IsStep}
use Rattle.eq_proof.proofs.lrat.print_lrat.Given as goal

abbrev pub invariant-loop-place : goal.invariant-loop-place
invariant-loop-place l = record {
  text : l.out.items ≡ lrat_text l.first (take l.place l.log);
  steps : All IsStep (take l.place l.log);
}
