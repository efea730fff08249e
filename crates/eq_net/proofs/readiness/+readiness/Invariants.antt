use Rattle.std.proofs.Common.{drop}
use Rattle.eq_net.specs.Net.{number_of}
use Rattle.eq_net.specs.Tree.{join_all, trees_of}
use Rattle.eq_net.specs.inner.Marks.{IsReady}
use Rattle.eq_net.proofs.readiness.+readiness.Given as goal

abbrev pub invariant-are_ready-loop-part : goal.invariant-are_ready-loop-part
invariant-are_ready-loop-part l =
    IsReady (number_of l.nets) l.done l.whole (join_all (drop l.part-index (trees_of l.parts))) → IsReady (number_of l.nets) l.done l.whole (join_all (trees_of l.parts))
