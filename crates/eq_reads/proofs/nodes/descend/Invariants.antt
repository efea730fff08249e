use Rattle.std.proofs.Common.{◌-◌, length}
use Rattle.eq_reads.proofs.Swept.{DescendLeads, Gathered, Swept}
use Rattle.eq_reads.proofs.nodes.descend.Given as goal

abbrev pub invariant-loop-turn : goal.invariant-loop-turn
invariant-loop-turn l = record {
  all : Gathered l.fn.nodes l.fn.row.items l.nodes l.start l.all (length l.fn.row.items - l.turn)
      (length l.fn.row.items);
  row : Swept l.fn.nodes l.fn.row.items l.nodes l.row.items (length l.fn.row.items - l.turn) (length l.fn.row.items)
      (DescendLeads l.fn.nodes l.fn.row.items l.start (length l.fn.row.items));
}
