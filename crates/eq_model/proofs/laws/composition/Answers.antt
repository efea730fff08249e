use Rattle.eq_model.proofs.Composition.{equivalent}
use Rattle.eq_model.proofs.laws.composition.Goals as goal

pub returns : goal.returns
returns c = λ gold gate p gold_sound gate_sound gold_free gate_free covers never.
    equivalent gold gate p gold_sound gate_sound gate_free covers never gold_free
