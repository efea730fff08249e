use Rattle.std.proofs.Common.{sym}
use Rattle.eq_config.specs.Printing.{file_line}
use Rattle.eq_config.proofs.Printed.{line_more}
use Rattle.eq_config.proofs.print.put_files.Goals as goal

pub loop-file-preserved : goal.loop-file-preserved
loop-file-preserved c = line_more file_line c.args.files.now c.loop-file.file-index c.file-item.result
    c.file-item.result c.args.out.now c.loop-file.out c.put_file.new.out
    c.loop-file-test.true (sym c.file-item.is) c.loop-file.invariant c.in_ok-put_file.ensures
