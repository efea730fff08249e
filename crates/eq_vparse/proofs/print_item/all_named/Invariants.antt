use Rattle.std.proofs.Common.{◌≡◌, take}
use Rattle.eq_vparse.specs.Printing.{all_named}
use Rattle.eq_vparse.specs.Text.{put_all}
use Rattle.eq_vparse.proofs.print_item.all_named.Given as goal

abbrev pub invariant-loop-at : goal.invariant-loop-at
invariant-loop-at l = l.out ≡ put_all l.fn.out (all_named (take l.at l.all))
