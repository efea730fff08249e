use Rattle.std.proofs.Common.{◌≡◌, take}
use Rattle.eq_vparse.specs.Printing.{stmts_tokens}
use Rattle.eq_vparse.specs.Text.{put_all}
use Rattle.eq_vparse.proofs.print_statement.+statements.Given as goal

abbrev pub invariant-stmts-loop-at : goal.invariant-stmts-loop-at
invariant-stmts-loop-at l = l.out ≡ put_all l.fn.out (stmts_tokens (take l.at l.body))
