use Rattle.std.specs.Prelude.{option_copied, ◌+◌}
use Rattle.eq_verilog.specs.Nets.{alone, nets_at, offset}
use Rattle.eq_analysis.specs.Tabling.{tree_at}
use Rattle.eq_analysis.proofs.TargetLemmas.{through_leaf}
use Rattle.eq_analysis.proofs.targets.in_leaf.Goals as goal

pub returns : goal.returns
returns c = λ e names bits.
    let m = tree_at c.args.table.now in
    through_leaf m c.args.right e c.args.name.now c.in_ok-low.low
    (offset (nets_at (alone m)) c.args.name.now + c.args.position) c.args.count c.args.marks.now c.in_run.new.marks
    (option_copied c.in_ok-found.found) names bits (c.in_ok-low.ensures.is m c.requires.places)
    c.in_ok-found.ensures.found c.in_ok-found.ensures.marked
