use Rattle.std.proofs.Common.{arith}
use Rattle.eq_cone.proofs.Fitting.{gate_fits, gold_fits, pairs_fit}
use Rattle.eq_cone.proofs.Planned.{few_nodes, own_nodes}
use Rattle.eq_cone.proofs.laws.tables_fit.Goals as goal

pub returns-clause-own_nodes : goal.returns-clause-own_nodes
returns-clause-own_nodes c = λ net g of_net. own_nodes net g of_net

pub returns-clause-gold_bits : goal.returns-clause-gold_bits
returns-clause-gold_bits c = λ gold gate g plan of_net is_plan. gold_fits gold gate plan is_plan g of_net

pub returns-clause-gate_bits : goal.returns-clause-gate_bits
returns-clause-gate_bits c = λ gold gate g plan of_net is_plan. gate_fits gold gate plan is_plan g of_net

pub returns-clause-few_pairs : goal.returns-clause-few_pairs
returns-clause-few_pairs c = λ gold gate g plan of_net is_plan. (
    let e = pairs_fit gold gate plan is_plan g of_net in omega arith)

pub returns-clause-few_nodes : goal.returns-clause-few_nodes
returns-clause-few_nodes c = λ gold gate g h of_gold of_gate. (
    let e = few_nodes gold g of_gold in let f = few_nodes gate h of_gate in omega arith)
