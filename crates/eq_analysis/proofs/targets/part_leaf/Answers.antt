use Rattle.std.proofs.Common.{ℕ, ◌+◌, refl, sym, ap, ap₂, ◌∙◌}
use Rattle.eq_verilog.specs.Trees.{part}
use Rattle.eq_verilog.specs.Scopes.{position}
use Rattle.eq_verilog.specs.Nets.{alone, nets_at, offset}
use Rattle.eq_analysis.specs.Marking.{run}
use Rattle.eq_analysis.specs.Tabling.{tree_at}
use Rattle.eq_analysis.proofs.TargetLemmas.{part_run}
use Rattle.eq_analysis.proofs.targets.part_leaf.Goals as goal

pub returns : goal.returns
returns c =
    let m = tree_at c.args.table.now in
    let n = c.args.name.now in
    c.in_ok-found.ensures (part n c.args.from c.args.to) refl
    (part_run m n c.args.from c.args.to ∙ ap₂ (λ (p k : ℕ). run (offset (nets_at (alone m)) n + p) k)
    (sym (c.position-at.ensures ∙ ap (λ r. position r c.args.to) c.range.ensures)) (sym c.bits_of-count.ensures.bits))
