use Rattle.std.proofs.Common.{◌<◌, length, arith}
use Rattle.eq_verilog.specs.Trees.{module_tree}
use Rattle.eq_analysis.specs.Placing.{bits_at}
use Rattle.eq_analysis.proofs.PlacingLemmas.{placed_more}
use Rattle.eq_analysis.proofs.placing.starts_of.Goals as goal

pub loop-place-preserved : goal.loop-place-preserved
loop-place-preserved c =
    let test = c.loop-place-test.true in
    let count = c.len-place-end.ensures in
    let within : c.loop-place.place < length c.args.names.now = omega arith in
    placed_more (bits_at (module_tree c.args.table.now.within.now)) c.args.names.now c.loop-place.place
    c.loop-place.firsts.items c.push.new.self.items c.loop-place.total c.in_ok-total.total c.bits_at_place.result within
    c.loop-place.invariant c.in_ok-push.ensures.items c.bits_at_place.ensures c.in_ok-total.ensures.0
    c.in_ok-total.ensures.1
