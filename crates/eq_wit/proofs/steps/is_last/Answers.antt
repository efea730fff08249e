use Rattle.std.proofs.Common.{◌+◌, arith}
use Rattle.eq_wit.proofs.StepLemmas.{nothing_behind}
use Rattle.eq_wit.proofs.steps.is_last.Goals as goal

pub returns-then-place-len : goal.returns-then-place-len
returns-then-place-len c = (
  λ no. absurd (cc (no)),
  λ e.
      let long = nothing_behind c.args.words.now (c.args.place + 1) e in
      absurd (omega (arith, long)),
)
