use Rattle.eq_vparse.specs.Printing.{module_written}
use Rattle.eq_vparse.specs.Text.{put_written}
use Rattle.eq_vparse.proofs.Printed.{each_more}
use Rattle.eq_vparse.proofs.Texts.{written_append}
use Rattle.eq_vparse.proofs.print.modules.Goals as goal

pub loop-at-preserved : goal.loop-at-preserved
loop-at-preserved c = each_more put_written written_append module_written c.args.all.now c.loop-at.at c.index-all-at.result c.index-all-at.result c.args.out.now c.loop-at.out c.module.new.out c.loop-at-test.true c.index-all-at.is c.loop-at.invariant c.in_ok-module.ensures
