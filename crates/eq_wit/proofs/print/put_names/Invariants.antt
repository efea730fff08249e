use Rattle.std.proofs.Common.{◌≡◌, ◌++◌, take}
use Rattle.std.specs.Prelude.{map}
use Rattle.eq_wit.specs.Line.{lines_text}
use Rattle.eq_wit.specs.Texts.{name_line}
use Rattle.eq_wit.proofs.print.put_names.Given as goal

abbrev pub invariant-loop-name : goal.invariant-loop-name
invariant-loop-name l = l.out.items ≡ l.fn.out.items ++ lines_text (map name_line (take l.name-index l.names))
