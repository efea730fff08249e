use Rattle.std.proofs.Common.{refl}
use Rattle.eq_wit.specs.Texts.{head_line}
use Rattle.eq_wit.proofs.TakeLemmas.{follows_head, stopped_head}
use Rattle.eq_wit.proofs.trying.one_try.Goals as goal

pub returns-in-Ok : goal.returns-in-Ok
returns-in-Ok c = (
  head_line c.in-Ok.head c.in-Ok.queries,
  follows_head c.args.tally c.args.tally.left (c.in-Ok.head, c.in-Ok.queries) c.new.result c.requires refl
      c.in-Ok.ensures.fits c.new.ensures,
  c.in-Ok.ensures.words,
)

pub returns-in-Err : goal.returns-in-Err
returns-in-Err c = stopped_head c.args.tally c.args.tally.left c.args.words.now c.in-Err.stop c.requires refl c.in-Err.ensures
