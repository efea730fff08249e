use Rattle.eq_wit.proofs.NodeLemmas.{wrong_reg}
use Rattle.eq_wit.proofs.nodes.reg.Goals as goal

pub returns-in-None : goal.returns-in-None
returns-in-None c =
    wrong_reg c.args.d.now c.args.total c.in-Some.init c.args.words.now c.args.first.now c.args.second.now c.wrong_from.result
    c.requires.ready c.requires.words c.in-Some.ensures c.in-None.ensures c.wrong_from.ensures
