use Rattle.eq_verilog.proofs.PureTrees.{of_target_net, of_target_bit, of_target_part, of_target_concat, of_empty, of_set, of_block, of_if, of_if_else}
use Rattle.eq_verilog.proofs.laws.statement_trees.Goals as goal

pub returns-clause-name : goal.returns-clause-name
returns-clause-name c = of_target_net

pub returns-clause-bit : goal.returns-clause-bit
returns-clause-bit c = of_target_bit

pub returns-clause-part : goal.returns-clause-part
returns-clause-part c = of_target_part

pub returns-clause-concat : goal.returns-clause-concat
returns-clause-concat c = of_target_concat

pub returns-clause-empty : goal.returns-clause-empty
returns-clause-empty c = of_empty

pub returns-clause-set : goal.returns-clause-set
returns-clause-set c = of_set

pub returns-clause-block : goal.returns-clause-block
returns-clause-block c = of_block

pub returns-clause-without_else : goal.returns-clause-without_else
returns-clause-without_else c = of_if

pub returns-clause-with_else : goal.returns-clause-with_else
returns-clause-with_else c = of_if_else
