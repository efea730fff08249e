use Rattle.std.proofs.Common.{◌≡◌, take}
use Rattle.eq_vparse.specs.Printing.{exprs_tokens}
use Rattle.eq_vparse.specs.Text.{put_all}
use Rattle.eq_vparse.proofs.print_expression.+expressions.Given as goal

abbrev pub invariant-exprs-loop-at : goal.invariant-exprs-loop-at
invariant-exprs-loop-at l = l.out ≡ put_all l.fn.out (exprs_tokens (take l.at l.parts))
