use Rattle.eq_marks.specs.Answers.{meaning}
use Rattle.eq_marks.proofs.HeaderLemmas.{has_other}
use Rattle.eq_marks.proofs.ports.clash.Goals as goal

pub takes_named-requires-clause-there : goal.takes_named-requires-clause-there
takes_named-requires-clause-there c =
    has_other (meaning c.args.gold.now).ports (meaning c.args.gate.now).ports c.in-None-Some.n.now c.requires.in_gold
    c.in-None-Some.ensures'.there

pub takes_named-requires-in-Some-None-clause-there : goal.takes_named-requires-in-Some-None-clause-there
takes_named-requires-in-Some-None-clause-there c =
    has_other (meaning c.args.gate.now).ports (meaning c.args.gold.now).ports c.in-Some-None.m.now c.requires.in_gate
    c.in-Some-None.ensures.there
