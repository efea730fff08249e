use Rattle.std.proofs.Common.{false, length, slice_get}
use Rattle.eq_names.specs.declared.BitName.{BitName}
use Rattle.eq_net.specs.Meaning.{if_there}
use Rattle.eq_net.specs.Net.{number_of}
use Rattle.eq_net.specs.inner.Cells.{Performs}
use Rattle.eq_net.proofs.cells.words.push_named.Given as goal

abbrev pub invariant-loop-j : goal.invariant-loop-j
invariant-loop-j l = Performs l.j (length l.fn.stack.items) (λ v i. if_there false (λ (n : BitName). v.bits (number_of l.nets n)) (slice_get l.names i))
    l.fn.cells.items l.cells.items l.fn.stack.items l.stack.items
