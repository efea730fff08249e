use Rattle.std.proofs.Common.{ℕ, ◌+◌, sym, ap, ◌∙◌}
use Rattle.eq_verilog.specs.Trees.{bit}
use Rattle.eq_verilog.specs.Scopes.{position}
use Rattle.eq_verilog.specs.Nets.{alone, nets_at, offset}
use Rattle.eq_analysis.specs.Marking.{run}
use Rattle.eq_analysis.specs.Tabling.{tree_at}
use Rattle.eq_cost.proofs.SeenLemmas.{one_bit}
use Rattle.eq_cost.proofs.seen.see_select.Goals as goal

pub returns : goal.returns
returns c =
    let m = tree_at c.args.table.now in
    let n = c.args.name.now in
    c.in_ok-see_leaf.ensures m c.requires.places (bit n c.args.index)
    (one_bit m n c.args.index ∙ ap (λ (p : ℕ). run (offset (nets_at (alone m)) n + p) 1)
    (sym (c.position-at.ensures ∙ ap (λ r. position r c.args.index) c.range.ensures)))
