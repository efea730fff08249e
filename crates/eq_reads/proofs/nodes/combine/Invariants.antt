use Rattle.std.proofs.Common.{◌+◌}
use Rattle.eq_reads.proofs.Swept.{CombineLeads, Swept}
use Rattle.eq_reads.proofs.nodes.combine.Given as goal

abbrev pub invariant-loop-j : goal.invariant-loop-j
invariant-loop-j l = Swept l.fn.nodes l.fn.row.items l.nodes l.row.items l.left (l.left + l.j)
    (CombineLeads l.fn.nodes l.fn.row.items l.left l.right)
