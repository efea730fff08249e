use Rattle.std.proofs.Common.{◌≡◌, ◌++◌, take}
use Rattle.std.specs.Prelude.{map}
use Rattle.eq_wit.specs.Line.{lines_text}
use Rattle.eq_wit.specs.Texts.{output_line}
use Rattle.eq_wit.proofs.print.put_outputs.Given as goal

abbrev pub invariant-loop-output : goal.invariant-loop-output
invariant-loop-output l = l.out.items ≡ l.fn.out.items ++ lines_text (map output_line (take l.output-index l.outputs))
