use Rattle.eq_names.specs.Patterns.{piece_at}
use Rattle.eq_names.proofs.Wholes.{one_list}
use Rattle.eq_names.proofs.laws.one_pattern.Goals as goal

pub returns : goal.returns
returns c = one_list piece_at
