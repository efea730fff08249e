use Rattle.eq_vlex.proofs.Whole.{spans_of, only_list, only_fault}
use Rattle.eq_vlex.proofs.lex.tokens.Goals as goal

pub returns-clause-spans : goal.returns-clause-spans
returns-clause-spans c = spans_of c.args.text.now c.read_pieces.result c.read_pieces.ensures.ok

pub returns-clause-only_tokens : goal.returns-clause-only_tokens
returns-clause-only_tokens c = only_list c.args.text.now c.read_pieces.result c.read_pieces.ensures.ok c.read_pieces.ensures.fault

pub returns-clause-only_fault : goal.returns-clause-only_fault
returns-clause-only_fault c = only_fault c.args.text.now c.read_pieces.result c.read_pieces.ensures.ok c.read_pieces.ensures.fault
