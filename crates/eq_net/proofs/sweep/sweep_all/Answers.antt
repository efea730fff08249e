use Rattle.eq_net.specs.Whole.{parts_of}
use Rattle.eq_net.proofs.Swept.{swept_given}
use Rattle.eq_net.proofs.sweep.sweep_all.Goals as goal

pub returns-clause-swept : goal.returns-clause-swept
returns-clause-swept c =
    c.in_ok-sweep_words.ensures.swept (swept_given (parts_of c.args.net.now) c.args.now.now c.in_ok-done.done.items c.in_ok-words.words.items c.in_ok-whole.whole.items
    c.in_ok-whole.ensures.none c.in_ok-done.ensures.given)
