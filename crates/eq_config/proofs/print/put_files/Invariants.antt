use Rattle.std.proofs.Common.{◌≡◌, ◌++◌, take}
use Rattle.std.specs.Prelude.{map}
use Rattle.eq_config.specs.Printing.{text_of, file_line}
use Rattle.eq_config.proofs.print.put_files.Given as goal

abbrev pub invariant-loop-file : goal.invariant-loop-file
invariant-loop-file l = l.out ≡ l.fn.out ++ text_of (map file_line (take l.file-index l.files))
