use Rattle.std.proofs.Common.{◌≡◌, drop, length}
use Rattle.eq_net.specs.Whole.{parts_of}
use Rattle.eq_match.specs.Classes.{Together}
use Rattle.eq_match.specs.Groups.{SectionsCollect}
use Rattle.eq_match.specs.Leaders.{one_leader}
use Rattle.eq_match.proofs.grouping.sections.Given as goal

abbrev pub invariant-loop-one : goal.invariant-loop-one
invariant-loop-one l = record {
  count : length l.classes ≡ length l.pairs;
  behind : (after : Together) →
      SectionsCollect (parts_of l.gold) l.pairs l.top (drop l.one-index l.list) (one_leader l.classes) after →
      SectionsCollect (parts_of l.gold) l.pairs l.top l.list (one_leader l.fn.start) after;
}
