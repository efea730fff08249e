use Rattle.std.proofs.Common.{◌≡◌, take}
use Rattle.eq_vparse.specs.Printing.{maybe_exprs}
use Rattle.eq_vparse.specs.Text.{put_all}
use Rattle.eq_vparse.proofs.print_item.maybe_exprs.Given as goal

abbrev pub invariant-loop-at : goal.invariant-loop-at
invariant-loop-at l = l.out ≡ put_all l.fn.out (maybe_exprs (take l.at l.all))
