use Rattle.std.proofs.Common.{ℕ, ◌+◌, sym, ap, ap₂, ◌∙◌}
use Rattle.eq_verilog.specs.Trees.{part}
use Rattle.eq_verilog.specs.Scopes.{position}
use Rattle.eq_verilog.specs.Nets.{alone, nets_at, offset}
use Rattle.eq_analysis.specs.Marking.{run}
use Rattle.eq_analysis.specs.Tabling.{tree_at}
use Rattle.eq_cost.proofs.SeenLemmas.{part_bits}
use Rattle.eq_cost.proofs.seen.see_part.Goals as goal

pub returns : goal.returns
returns c =
    let m = tree_at c.args.table.now in
    let n = c.args.name.now in
    c.in_ok-see_leaf.ensures m c.requires.places (part n c.args.left c.args.right)
    (part_bits m n c.args.left c.args.right ∙ ap₂ (λ (p k : ℕ). run (offset (nets_at (alone m)) n + p) k)
    (sym (c.position-at.ensures ∙ ap (λ r. position r c.args.right) c.range.ensures)) (sym c.bits_of.ensures.bits))
