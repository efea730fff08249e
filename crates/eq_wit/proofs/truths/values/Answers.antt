use Rattle.std.proofs.Common.{ℕ, List, get_or, length, arith, refl, ap, ◌∙◌}
use Rattle.eq_wit.proofs.BitLemmas.{digit_at}
use Rattle.eq_wit.proofs.truths.values.Goals as goal

pub returns-in-None : goal.returns-in-None
returns-in-None c = (
  refl,
  λ bits e.
      let i = c.loop-byte.byte-index in
      let at = digit_at bits i 0 (omega (arith, ap length e, c.loop-byte-test.true)) in
      c.in-None.ensures at.0 (ap (λ (word : List ℕ). get_or word i 0) e ∙ at.1),
)
