use Rattle.std.proofs.Common.{◌≡◌, ◌++◌, map, take}
use Rattle.eq_net.specs.Net.{number_of}
use Rattle.eq_marks.specs.inner.Carrying.{mark_of}
use Rattle.eq_marks.proofs.carrying.push_named.Given as goal

abbrev pub invariant-loop-name : goal.invariant-loop-name
invariant-loop-name l = l.stack.items ≡ l.fn.stack.items ++ map (λ n. mark_of l.marks (number_of l.nets n)) (take
    l.name-index l.names)
