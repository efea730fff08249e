use Rattle.std.proofs.Common.{◌≡◌, map, take}
use Rattle.eq_net.specs.Tree.{trees_of}
use Rattle.test_netlists.specs.Operators.{operation}
use Rattle.test_netlists.proofs.operators.words.Given as goal

abbrev pub invariant-loop-op : goal.invariant-loop-op
invariant-loop-op l = trees_of l.words ≡ map (operation l.width) (take l.op-index l.ops)
