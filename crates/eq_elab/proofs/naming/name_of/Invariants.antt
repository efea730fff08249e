use Rattle.eq_elab.proofs.BitNames.{IsSought}
use Rattle.eq_elab.proofs.naming.name_of.Given as goal

abbrev pub invariant-loop-net : goal.invariant-loop-net
invariant-loop-net l = IsSought l.nets l.bit l.net-index l.left
