use Rattle.eq_vparse.specs.Printing.{stmt_tokens}
use Rattle.eq_vparse.specs.Text.{put_all}
use Rattle.eq_vparse.proofs.Printed.{each_more}
use Rattle.eq_vparse.proofs.Texts.{put_append}
use Rattle.eq_vparse.proofs.print_statement.+statements.Goals as goal

pub stmts-loop-at-preserved : goal.stmts-loop-at-preserved
stmts-loop-at-preserved t c = each_more put_all put_append stmt_tokens c.args.body.now c.loop-at.at c.index-body-at.result c.index-body-at.result c.args.out.now c.loop-at.out c.stmt.new.out c.loop-at-test.true c.index-body-at.is c.loop-at.invariant c.in_ok-stmt.ensures
