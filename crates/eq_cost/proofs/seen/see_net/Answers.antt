use Rattle.std.proofs.Common.{ℕ, ◌+◌, sym, ap, ◌∙◌}
use Rattle.eq_model.specs.Nets.{range_width}
use Rattle.eq_verilog.specs.Trees.{net}
use Rattle.eq_verilog.specs.Nets.{alone, nets_at, offset}
use Rattle.eq_analysis.specs.Marking.{run}
use Rattle.eq_analysis.specs.Tabling.{tree_at}
use Rattle.eq_cost.proofs.SeenLemmas.{net_bits}
use Rattle.eq_cost.proofs.seen.see_net.Goals as goal

pub returns : goal.returns
returns c =
    let m = tree_at c.args.table.now in
    let n = c.args.name.now in
    c.in_ok-see_leaf.ensures m c.requires.places (net n)
    (net_bits m n ∙ ap (λ (k : ℕ). run (offset (nets_at (alone m)) n + 0) k)
    (sym (c.bits_of.ensures.bits ∙ ap range_width c.range.ensures)))
