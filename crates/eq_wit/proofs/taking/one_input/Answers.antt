use Rattle.eq_wit.specs.Texts.{name_line}
use Rattle.eq_wit.proofs.TakeLemmas.{follows_input}
use Rattle.eq_wit.proofs.taking.one_input.Goals as goal

pub returns-in_ok-push-in-Ok : goal.returns-in_ok-push-in-Ok
returns-in_ok-push-in-Ok c = (
  name_line c.in-Ok.input,
  follows_input c.args.draft c.args.left c.in-Ok.input c.push.new.self c.requires c.in-Ok.ensures.fits c.in_ok-push-in-Ok.ensures.ok,
  c.in-Ok.ensures.words,
)
