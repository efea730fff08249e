use Rattle.test_witness.proofs.printing.printed.Goals as goal

pub print_evidence-requires-clause-known : goal.print_evidence-requires-clause-known
print_evidence-requires-clause-known c =
    (c.outcomes_are_evidence.ensures c.args.part.now c.args.s.now c.in_ok-decided.decided
    (c.may_be_tried.ensures.0 c.if-not-may_be_tried.false) c.in_ok-decided.ensures.ok).0

pub print_evidence-requires-clause-evidence : goal.print_evidence-requires-clause-evidence
print_evidence-requires-clause-evidence c =
    (c.outcomes_are_evidence.ensures c.args.part.now c.args.s.now c.in_ok-decided.decided
    (c.may_be_tried.ensures.0 c.if-not-may_be_tried.false) c.in_ok-decided.ensures.ok).1
