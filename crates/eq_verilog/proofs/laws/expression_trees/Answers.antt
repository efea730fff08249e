use Rattle.eq_verilog.proofs.PureTrees.{of_const, of_net, of_bit, of_part, of_unary, of_binary, of_choice, of_concat, of_repeat}
use Rattle.eq_verilog.proofs.laws.expression_trees.Goals as goal

pub returns-clause-constant : goal.returns-clause-constant
returns-clause-constant c = of_const

pub returns-clause-name : goal.returns-clause-name
returns-clause-name c = of_net

pub returns-clause-bit : goal.returns-clause-bit
returns-clause-bit c = of_bit

pub returns-clause-part : goal.returns-clause-part
returns-clause-part c = of_part

pub returns-clause-unary : goal.returns-clause-unary
returns-clause-unary c = of_unary

pub returns-clause-binary : goal.returns-clause-binary
returns-clause-binary c = of_binary

pub returns-clause-choice : goal.returns-clause-choice
returns-clause-choice c = of_choice

pub returns-clause-concat : goal.returns-clause-concat
returns-clause-concat c = of_concat

pub returns-clause-repeat : goal.returns-clause-repeat
returns-clause-repeat c = of_repeat
