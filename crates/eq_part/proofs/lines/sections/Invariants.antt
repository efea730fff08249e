use Rattle.std.proofs.Common.{drop}
use Rattle.eq_net.specs.Whole.{parts_of}
use Rattle.eq_part.specs.Partitions.{Division, SectionsMake}
use Rattle.eq_part.specs.inner.States.{IsState, division_of}
use Rattle.eq_part.proofs.lines.sections.Given as goal

abbrev pub invariant-loop-one : goal.invariant-loop-one
invariant-loop-one l = record {
  state : IsState l.pairs l.state;
  behind : (after : Division) →
      SectionsMake (parts_of l.gold) l.pairs l.top (drop l.one-index l.list) (division_of l.state) after →
      SectionsMake (parts_of l.gold) l.pairs l.top l.list (division_of l.fn.start) after;
}
