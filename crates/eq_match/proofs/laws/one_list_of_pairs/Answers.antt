use Rattle.eq_match.proofs.OnePairing.{pairs_once}
use Rattle.eq_match.proofs.laws.one_list_of_pairs.Goals as goal

pub returns : goal.returns
returns c gold gate k ps qs gold_is gate_is a b =
    pairs_once gold gate gold_is gate_is c.one_capture.ensures c.one_filling.ensures k ps qs a b
