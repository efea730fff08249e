use Rattle.std.proofs.Common.{ℕ, arith, subst}
use Rattle.eq_wit.specs.Texts.{output_line}
use Rattle.eq_wit.specs.inner.Items.{IsOutput}
use Rattle.eq_wit.proofs.TakeLemmas.{follows_output, stopped_output}
use Rattle.eq_wit.proofs.taking.one_output.Goals as goal

pub returns-in_ok-push-in-Ok : goal.returns-in_ok-push-in-Ok
returns-in_ok-push-in-Ok c = (
  output_line c.in-Ok.output,
  follows_output c.args.draft c.args.left c.in-Ok.output c.push.new.self c.requires.some
      (subst (λ (m : ℕ). IsOutput m c.in-Ok.output) (omega arith) c.in-Ok.ensures.fits) c.in_ok-push-in-Ok.ensures.ok,
  c.in-Ok.ensures.words,
)

pub returns-in-Err : goal.returns-in-Err
returns-in-Err c = stopped_output c.args.draft c.args.left _ c.args.words.now c.in-Err.stop c.requires.some (omega arith)
    c.in-Err.ensures
