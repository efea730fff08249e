use Rattle.std.proofs.lemmas.List.{get_or_default}
use Rattle.eq_part.proofs.visits.pair_at.Goals as goal

pub returns : goal.returns
returns c = get_or_default c.args.pairs.now c.args.i _ _ c.requires
