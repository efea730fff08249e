use Rattle.std.proofs.Common.{length, refl}
use Rattle.eq_wit.proofs.NodeLemmas.{right_buf, wrong_buf}
use Rattle.eq_wit.proofs.nodes.buf.Goals as goal

pub returns-in-Some : goal.returns-in-Some
returns-in-Some c = right_buf c.args.d.now c.args.total c.in-Some.a c.args.words.now c.args.word.now c.requires.words
    c.in-Some.ensures.0 c.in-Some.ensures.1

pub returns-in-None : goal.returns-in-None
returns-in-None c = wrong_buf c.args.d.now c.args.total (length c.args.d.now.nodes) c.args.words.now c.args.word.now
    c.wrong_in.result refl c.requires.ready c.requires.words (λ a less e. c.in-None.ensures a less e) c.wrong_in.ensures
