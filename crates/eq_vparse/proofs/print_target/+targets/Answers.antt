use Rattle.eq_vparse.specs.Printing.{target_tokens}
use Rattle.eq_vparse.proofs.Printed.{put_next}
use Rattle.eq_vparse.proofs.print_target.+targets.Goals as goal

pub targets-loop-at-preserved : goal.targets-loop-at-preserved
targets-loop-at-preserved t c = put_next target_tokens c.args.parts.now c.loop-at.at c.index-parts-at.result c.index-parts-at.result c.args.out.now c.loop-at.out c.comma.new.out c.target.new.out c.loop-at-test.true c.index-parts-at.is c.loop-at.invariant c.in_ok-comma.ensures c.in_ok-target.ensures
