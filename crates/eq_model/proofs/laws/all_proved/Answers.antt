use Rattle.eq_model.proofs.Induction.{never}
use Rattle.eq_model.proofs.Composition.{equivalent}
use Rattle.eq_model.proofs.laws.all_proved.Goals as goal

pub returns : goal.returns
returns c = λ gold gate p gold_sound gate_sound gold_free gate_free covers rows.
    equivalent gold gate p gold_sound gate_sound gate_free covers
    (λ q lq. let r = rows q lq in never gold.system gate.system p (p.holds q) r.0 r.1.0 r.1.1) gold_free
