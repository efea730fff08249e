use Rattle.eq_part.proofs.Few.{gold_bits_few}
use Rattle.eq_part.proofs.laws.matched_pairs_are_few.Goals as goal

pub returns : goal.returns
returns c gold gate pairs net are = gold_bits_few gold gate pairs are net
