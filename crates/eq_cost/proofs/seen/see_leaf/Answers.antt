use Rattle.std.proofs.Common.{◌≡◌, ℕ, List, ◌++◌, ap, sym, subst, ◌∙◌}
use Rattle.eq_verilog.specs.Nets.{module_scope}
use Rattle.eq_verilog.specs.Costs.{bits_in}
use Rattle.eq_analysis.specs.Marking.{run}
use Rattle.eq_cost.specs.inner.Seeing.{IsCounted}
use Rattle.eq_cost.proofs.seen.see_leaf.Goals as goal

pub returns : goal.returns
returns c = λ m are e is bits h.
    let same : run c.in_ok-low.low c.args.count ≡ bits_in (module_scope m) e =
    ap (λ (n : ℕ). run n c.args.count) (c.in_ok-low.ensures.is m are) ∙ sym is in
    subst (λ (ns : List ℕ). IsCounted c.see_run.new.seen (ns ++ bits)) same (c.in_ok-see_run.ensures bits h)
