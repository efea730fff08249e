use Rattle.std.proofs.Common.{length, refl}
use Rattle.eq_wit.proofs.NodeLemmas.{wrong_mux}
use Rattle.eq_wit.proofs.nodes.mux.Goals as goal

pub returns-in_default : goal.returns-in_default
returns-in_default c =
    wrong_mux c.args.d.now c.args.total (length c.args.d.now.nodes) c.args.words.now c.args.first.now c.args.second.now
    c.args.third.now c.wrong_in.result refl c.requires.ready c.requires.words
    (λ a b z less few small e g h. c.in_default.ensures a less e) c.wrong_in.ensures

pub returns-in_default-operand : goal.returns-in_default-operand
returns-in_default-operand c =
    wrong_mux c.args.d.now c.args.total (length c.args.d.now.nodes) c.args.words.now c.args.first.now c.args.second.now
    c.args.third.now c.wrong_in-in_default-operand.result refl c.requires.ready c.requires.words
    (λ a b z less few small e g h. c.in_default-operand.ensures b few g) c.wrong_in-in_default-operand.ensures

pub returns-in-None : goal.returns-in-None
returns-in-None c =
    wrong_mux c.args.d.now c.args.total (length c.args.d.now.nodes) c.args.words.now c.args.first.now c.args.second.now
    c.args.third.now c.wrong_in-in-None.result refl c.requires.ready c.requires.words
    (λ a b z less few small e g h. c.in-None.ensures z small h) c.wrong_in-in-None.ensures
