use Rattle.std.proofs.Common.{◌≡◌, ◌++◌, take}
use Rattle.std.specs.List.{flat_map}
use Rattle.eq_config.specs.Printing.{text_of, part_lines}
use Rattle.eq_config.proofs.print.put_parts.Given as goal

abbrev pub invariant-loop-section : goal.invariant-loop-section
invariant-loop-section l = l.out ≡ l.fn.out ++ text_of (flat_map part_lines (take l.section-index l.sections))
