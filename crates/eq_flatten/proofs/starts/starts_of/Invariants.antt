use Rattle.eq_flatten.proofs.StartLemmas.{AreBehind}
use Rattle.eq_flatten.proofs.starts.starts_of.Given as goal

abbrev pub invariant-loop-net : goal.invariant-loop-net
invariant-loop-net l = AreBehind l.nets l.net-index l.starts.items l.bits
