use Rattle.eq_vparse.specs.Printing.{maybe_expr}
use Rattle.eq_vparse.proofs.Printed.{put_next}
use Rattle.eq_vparse.proofs.print_item.maybe_exprs.Goals as goal

pub loop-at-preserved : goal.loop-at-preserved
loop-at-preserved c = put_next maybe_expr c.args.all.now c.loop-at.at c.index-all-at.result c.index-all-at.result c.args.out.now c.loop-at.out c.comma.new.out c.maybe_expr.new.out c.loop-at-test.true c.index-all-at.is c.loop-at.invariant c.in_ok-comma.ensures c.in_ok-maybe_expr.ensures
