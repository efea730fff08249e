use Rattle.std.proofs.Common.{ℕ, ◌+◌, refl, sym, ap, ◌∙◌}
use Rattle.eq_model.specs.Nets.{range_width}
use Rattle.eq_verilog.specs.Trees.{net}
use Rattle.eq_verilog.specs.Nets.{alone, nets_at, offset}
use Rattle.eq_analysis.specs.Marking.{run}
use Rattle.eq_analysis.specs.Tabling.{tree_at}
use Rattle.eq_analysis.proofs.TargetLemmas.{net_run}
use Rattle.eq_analysis.proofs.targets.net_leaf.Goals as goal

pub returns : goal.returns
returns c =
    let m = tree_at c.args.table.now in
    let n = c.args.name.now in
    c.in_ok-found.ensures (net n) refl
    (net_run m n ∙ ap (λ (k : ℕ). run (offset (nets_at (alone m)) n + 0) k)
    (sym (c.bits_of.ensures.bits ∙ ap range_width c.range.ensures)))
