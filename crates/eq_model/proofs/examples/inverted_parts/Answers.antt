use Rattle.eq_model.proofs.PartTrials.{output_denotes, register_denotes}
use Rattle.eq_model.proofs.examples.inverted_parts.Goals as goal

pub returns-clause-outside : goal.returns-clause-outside
returns-clause-outside c = output_denotes

pub returns-clause-inside : goal.returns-clause-inside
returns-clause-inside c = register_denotes
