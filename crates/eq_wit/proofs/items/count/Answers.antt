use Rattle.std.proofs.Common.{arith}
use Rattle.eq_wit.proofs.ItemLemmas.{no_count, wrong_count}
use Rattle.eq_wit.proofs.items.count.Goals as goal

pub returns-in_default : goal.returns-in_default
returns-in_default c = no_count c.args.key.now c.args.most c.args.words.now (omega arith) c.in_default.ensures

pub returns-in-None : goal.returns-in-None
returns-in-None c = wrong_count c.args.key.now c.args.most c.args.words.now c.in-Some.word.now c.wrong.result (omega arith)
    c.in-Some.ensures c.in-None.ensures c.wrong.ensures
