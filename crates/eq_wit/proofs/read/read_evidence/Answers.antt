use Rattle.eq_wit.proofs.ReadLemmas.{names_fault, only_evidence, only_fault, reads_evidence}
use Rattle.eq_wit.proofs.read.read_evidence.Goals as goal

pub returns-clause-ok : goal.returns-clause-ok
returns-clause-ok c = reads_evidence c.args.text.now c.evidence_of.result c.evidence_of.ensures

pub returns-clause-at : goal.returns-clause-at
returns-clause-at c = names_fault c.args.text.now c.evidence_of.result c.evidence_of.ensures

pub returns-clause-only_ok : goal.returns-clause-only_ok
returns-clause-only_ok c = only_evidence c.args.text.now c.evidence_of.result c.evidence_of.ensures

pub returns-clause-only_at : goal.returns-clause-only_at
returns-clause-only_at c = only_fault c.args.text.now c.evidence_of.result c.evidence_of.ensures
