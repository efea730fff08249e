use Rattle.std.proofs.Common.{◌≡◌, ◌≤◌}
use Rattle.eq_net.specs.Whole.{parts_of}
use Rattle.eq_blast.specs.Blasted.{inputs_before}
use Rattle.eq_blast.specs.inner.Planned.{AreOwn}
use Rattle.eq_blast.proofs.plan.own_nodes.Given as goal

abbrev pub invariant-loop-b : goal.invariant-loop-b
invariant-loop-b l = record {
  own : AreOwn (parts_of l.net) l.drives l.b l.own.items;
  inputs : l.inputs ≡ inputs_before (parts_of l.net) l.b;
  few : l.inputs ≤ l.b;
}
