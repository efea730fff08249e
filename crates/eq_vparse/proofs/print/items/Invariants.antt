use Rattle.std.proofs.Common.{◌≡◌, take}
use Rattle.eq_vparse.specs.Printing.{items_written}
use Rattle.eq_vparse.specs.Text.{put_written}
use Rattle.eq_vparse.proofs.print.items.Given as goal

abbrev pub invariant-loop-at : goal.invariant-loop-at
invariant-loop-at l = l.out ≡ put_written l.fn.out (items_written (take l.at l.all))
