use Rattle.std.proofs.Common.{◌≡◌, take}
use Rattle.eq_vparse.specs.Printing.{targets_tokens}
use Rattle.eq_vparse.specs.Text.{put_all}
use Rattle.eq_vparse.proofs.print_target.+targets.Given as goal

abbrev pub invariant-targets-loop-at : goal.invariant-targets-loop-at
invariant-targets-loop-at l = l.out ≡ put_all l.fn.out (targets_tokens (take l.at l.parts))
