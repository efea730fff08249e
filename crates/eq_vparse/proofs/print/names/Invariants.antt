use Rattle.std.proofs.Common.{◌≡◌, take}
use Rattle.eq_vparse.specs.Printing.{names_tokens}
use Rattle.eq_vparse.specs.Text.{put_all}
use Rattle.eq_vparse.proofs.print.names.Given as goal

abbrev pub invariant-loop-at : goal.invariant-loop-at
invariant-loop-at l = l.out ≡ put_all l.fn.out (names_tokens (take l.at l.all))
