use Rattle.eq_model.proofs.Copied.{copying_denotes}
use Rattle.eq_model.proofs.laws.copying.Goals as goal

pub returns : goal.returns
returns c = λ gold gate p inside t part gold_sound gate_sound gold_free gate_free one copying.
    copying_denotes gold gate p inside t copying part gold_sound gate_sound gold_free gate_free one
