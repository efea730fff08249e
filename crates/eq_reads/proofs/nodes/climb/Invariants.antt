use Rattle.eq_reads.proofs.Swept.{ClimbLeads, Gathered, Swept}
use Rattle.eq_reads.proofs.nodes.climb.Given as goal

abbrev pub invariant-loop-place : goal.invariant-loop-place
invariant-loop-place l = record {
  all : Gathered l.fn.nodes l.fn.row.items l.nodes l.start l.all l.from l.place;
  row : Swept l.fn.nodes l.fn.row.items l.nodes l.row.items l.from l.place (ClimbLeads l.fn.nodes l.fn.row.items
      l.start l.from);
}
