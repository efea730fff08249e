use Rattle.std.proofs.Common.{◌≡◌, ◌++◌, map, take}
use Rattle.eq_net.specs.Tree.{trees_of}
use Rattle.test_netlists.specs.Forms.{reduction}
use Rattle.test_netlists.proofs.forms.push_reductions.Given as goal

abbrev pub invariant-loop-op : goal.invariant-loop-op
invariant-loop-op l = trees_of l.out ≡ trees_of l.fn.out ++ map (reduction l.width) (take l.op-index l.ops)
