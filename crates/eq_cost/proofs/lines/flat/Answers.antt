use Rattle.std.proofs.Common.{refl}
use Rattle.eq_cost.proofs.LineLemmas.{flat_line}
use Rattle.eq_cost.proofs.lines.flat.Goals as goal

pub returns : goal.returns
returns c = λ f h. flat_line f _ refl h
