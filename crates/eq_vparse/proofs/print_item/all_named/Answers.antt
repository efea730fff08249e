use Rattle.eq_vparse.specs.Printing.{named_tokens}
use Rattle.eq_vparse.proofs.Printed.{put_next}
use Rattle.eq_vparse.proofs.print_item.all_named.Goals as goal

pub loop-at-preserved : goal.loop-at-preserved
loop-at-preserved c = put_next named_tokens c.args.all.now c.loop-at.at c.index-all-at.result c.index-all-at.result c.args.out.now c.loop-at.out c.comma.new.out c.named.new.out c.loop-at-test.true c.index-all-at.is c.loop-at.invariant c.in_ok-comma.ensures c.in_ok-named.ensures
