use Rattle.eq_wit.proofs.TakeLemmas.{stopped_end}
use Rattle.eq_wit.proofs.trying.query_over.Goals as goal

pub returns-in-Err : goal.returns-in-Err
returns-in-Err c = stopped_end c.args.tally c.args.attempt c.args.words.now c.in-Err.stop c.requires.over c.in-Err.ensures
