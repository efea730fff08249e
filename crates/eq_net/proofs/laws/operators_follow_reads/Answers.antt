use Rattle.eq_net.proofs.Depending.{apply_same, reduce_same, opposite_same, extended_same, choose_same}
use Rattle.eq_net.proofs.laws.operators_follow_reads.Goals as goal

pub returns : goal.returns
returns c = record {
  operations = apply_same;
  reductions = reduce_same;
  negatives = opposite_same;
  extensions = extended_same;
  choices = choose_same;
}
