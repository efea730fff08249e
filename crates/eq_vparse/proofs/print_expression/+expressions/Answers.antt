use Rattle.eq_vparse.specs.Printing.{expr_tokens}
use Rattle.eq_vparse.proofs.Printed.{put_next}
use Rattle.eq_vparse.proofs.print_expression.+expressions.Goals as goal

pub exprs-loop-at-preserved : goal.exprs-loop-at-preserved
exprs-loop-at-preserved t c = put_next expr_tokens c.args.parts.now c.loop-at.at c.index-parts-at.result c.index-parts-at.result c.args.out.now c.loop-at.out c.comma.new.out c.expr.new.out c.loop-at-test.true c.index-parts-at.is c.loop-at.invariant c.in_ok-comma.ensures c.in_ok-expr.ensures
