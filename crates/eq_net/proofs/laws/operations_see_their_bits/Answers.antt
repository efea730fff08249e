use Rattle.eq_net.proofs.Below.{apply_below, choose_below, negative_below, reduce_below}
use Rattle.eq_net.proofs.Sums.{number_same}
use Rattle.eq_net.proofs.laws.operations_see_their_bits.Goals as goal

pub returns-clause-number : goal.returns-clause-number
returns-clause-number c = number_same

pub returns-clause-binary : goal.returns-clause-binary
returns-clause-binary c = apply_below

pub returns-clause-negative : goal.returns-clause-negative
returns-clause-negative c = negative_below

pub returns-clause-reduce : goal.returns-clause-reduce
returns-clause-reduce c = reduce_below

pub returns-clause-choose : goal.returns-clause-choose
returns-clause-choose c = choose_below
