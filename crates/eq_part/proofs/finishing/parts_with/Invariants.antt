use Rattle.std.proofs.Common.{◌≡◌, take, map}
use Rattle.std.specs.List.{All}
use Rattle.eq_net.specs.Whole.{parts_of}
use Rattle.eq_part.specs.inner.Named.{IsNamed}
use Rattle.eq_part.specs.inner.States.{division_of}
use Rattle.eq_part.proofs.finishing.parts_with.Given as goal

abbrev pub invariant-loop-list : goal.invariant-loop-list
invariant-loop-list l = record {
  outputs : map (λ p. p.outputs) l.parts ≡ take l.list-index l.lists;
  names : All (IsNamed (parts_of l.gold) l.pairs (division_of l.state)) l.parts;
}
