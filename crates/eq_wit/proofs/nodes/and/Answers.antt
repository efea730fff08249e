use Rattle.std.proofs.Common.{length, refl}
use Rattle.eq_wit.proofs.NodeLemmas.{wrong_and}
use Rattle.eq_wit.proofs.nodes.and.Goals as goal

pub returns-in_default : goal.returns-in_default
returns-in_default c =
    wrong_and c.args.d.now c.args.total (length c.args.d.now.nodes) c.args.words.now c.args.first.now c.args.second.now
    c.wrong_in.result refl c.requires.ready c.requires.words (λ a b less few e g. c.in_default.ensures a less e) c.wrong_in.ensures

pub returns-in-None : goal.returns-in-None
returns-in-None c =
    wrong_and c.args.d.now c.args.total (length c.args.d.now.nodes) c.args.words.now c.args.first.now c.args.second.now
    c.wrong_in-in-None.result refl c.requires.ready c.requires.words (λ a b less few e g. c.in-None.ensures b few g)
    c.wrong_in-in-None.ensures
