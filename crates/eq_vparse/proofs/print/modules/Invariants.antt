use Rattle.std.proofs.Common.{◌≡◌, take}
use Rattle.eq_vparse.specs.Printing.{modules_written}
use Rattle.eq_vparse.specs.Text.{put_written}
use Rattle.eq_vparse.proofs.print.modules.Given as goal

abbrev pub invariant-loop-at : goal.invariant-loop-at
invariant-loop-at l = l.out ≡ put_written l.fn.out (modules_written (take l.at l.all))
