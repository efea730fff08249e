use Rattle.std.proofs.Common.{◌≡◌, ◌+◌, take}
use Rattle.eq_cdcl.specs.inner.Resolved.{opens, MarksToo}
use Rattle.eq_cdcl.proofs.marking.mark_all.Given as goal

abbrev pub invariant-loop-l : goal.invariant-loop-l
invariant-loop-l l = record {
  marks : MarksToo l.trail.lits (take l.l-index l.clause) l.end l.initial.marks l.marks;
  counted : opens l.marks l.start l.end ≡ opens l.initial.marks l.start l.end + l.more;
}
