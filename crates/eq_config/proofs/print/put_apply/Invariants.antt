use Rattle.std.proofs.Common.{◌≡◌, ◌++◌, take}
use Rattle.std.specs.Prelude.{map}
use Rattle.eq_config.specs.Printing.{text_of, apply_line}
use Rattle.eq_config.proofs.print.put_apply.Given as goal

abbrev pub invariant-loop-p : goal.invariant-loop-p
invariant-loop-p l = l.out ≡ l.fn.out ++ text_of (map apply_line (take l.p-index l.patterns))
