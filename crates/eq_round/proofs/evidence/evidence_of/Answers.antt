use Rattle.eq_round.proofs.evidence.evidence_of.Goals as goal

pub print_evidence-requires-clause-known : goal.print_evidence-requires-clause-known
print_evidence-requires-clause-known c =
    (c.outcomes_are_evidence.ensures c.args.done.now.part c.args.work.now.strategies.now c.args.done.now.decided
    c.requires.tried c.requires.outcome).0

pub print_evidence-requires-clause-evidence : goal.print_evidence-requires-clause-evidence
print_evidence-requires-clause-evidence c =
    (c.outcomes_are_evidence.ensures c.args.done.now.part c.args.work.now.strategies.now c.args.done.now.decided
    c.requires.tried c.requires.outcome).1
