use Rattle.std.proofs.Common.{◌≡◌, ◌++◌, take}
use Rattle.std.specs.List.{flat_map}
use Rattle.eq_wit.specs.Line.{lines_text}
use Rattle.eq_wit.specs.Texts.{asked_lines}
use Rattle.eq_wit.proofs.print.put_queries.Given as goal

abbrev pub invariant-loop-asked : goal.invariant-loop-asked
invariant-loop-asked l = l.out.items ≡ l.fn.out.items ++ lines_text (flat_map (asked_lines l.part) (take l.asked-index l.queries))
