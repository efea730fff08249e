use Rattle.eq_flatten.proofs.Likened.{driven_agreed}
use Rattle.eq_flatten.proofs.summing.equations_agree.Goals as goal

pub returns : goal.returns
returns c infos words slots es fs h are = driven_agreed infos words es fs slots h are
