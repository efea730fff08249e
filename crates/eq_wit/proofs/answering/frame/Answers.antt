use Rattle.std.proofs.Common.{◌∙◌}
use Rattle.eq_wit.specs.Texts.{frame_line}
use Rattle.eq_wit.proofs.AnswerLemmas.{follows_frame}
use Rattle.eq_wit.proofs.answering.frame.Goals as goal

pub returns-in_ok-in_frames-in-Ok : goal.returns-in_ok-in_frames-in-Ok
returns-in_ok-in_frames-in-Ok c = (
  frame_line c.in-Ok.frame,
  follows_frame c.args.tally c.args.attempt c.args.query c.args.k c.args.run c.args.left c.in-Ok.frame c.push.new.self
      c.in_ok-in_frames-in-Ok.field-0 c.requires (c.in-Ok.ensures.fits ∙ c.len.ensures) c.in_ok-push-in-Ok.ensures.ok
      c.in_ok-in_frames-in-Ok.ensures,
  c.in-Ok.ensures.words,
)
