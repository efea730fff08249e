use Rattle.std.proofs.Common.{refl}
use Rattle.eq_config.proofs.Refusals.{no_filling, not_answered}
use Rattle.eq_config.proofs.words.filling.Goals as goal

pub returns-in-Err-BadPercent-clause-fault : goal.returns-in-Err-BadPercent-clause-fault
returns-in-Err-BadPercent-clause-fault c = (
  refl,
  no_filling c.args.pattern.now c.args.text.now c.wilds.result c.wilds.ensures (λ m n. c.one_number_of_wilds.ensures c.args.pattern.now m n)
      (λ h. not_answered c.in-Err-BadPercent.field-0 c.args.text.now (c.in-Err-BadPercent.ensures.only_ok h) (λ e. absurd (cc (e, c.in-Err-BadPercent.field-0-is)))),
)

pub returns-in-Err-NoCapture-clause-fault : goal.returns-in-Err-NoCapture-clause-fault
returns-in-Err-NoCapture-clause-fault c = (
  refl,
  no_filling c.args.pattern.now c.args.text.now c.wilds.result c.wilds.ensures (λ m n. c.one_number_of_wilds.ensures c.args.pattern.now m n)
      (λ h. not_answered c.in-Err-NoCapture.field-0 c.args.text.now (c.in-Err-NoCapture.ensures.only_ok h) (λ e. absurd (cc (e, c.in-Err-NoCapture.field-0-is)))),
)
