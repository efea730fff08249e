use Rattle.std.proofs.Common.{◌≡◌, ◌++◌, take}
use Rattle.std.specs.List.{flat_map}
use Rattle.eq_wit.specs.Line.{lines_text}
use Rattle.eq_wit.specs.inner.Tries.{lines_of_try}
use Rattle.eq_wit.proofs.print.put_tries.Given as goal

abbrev pub invariant-loop-t : goal.invariant-loop-t
invariant-loop-t l = l.out.items ≡ l.fn.out.items ++ lines_text (flat_map (lines_of_try l.part l.s) (take l.t-index l.tries))
