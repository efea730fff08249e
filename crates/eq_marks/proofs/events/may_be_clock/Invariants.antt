use Rattle.eq_marks.proofs.EventLemmas.{IsSought}
use Rattle.eq_marks.proofs.events.may_be_clock.Given as goal

abbrev pub invariant-loop-net : goal.invariant-loop-net
invariant-loop-net l = IsSought l.nets l.bit l.net-index l.left
