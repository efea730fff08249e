use Rattle.std.proofs.Common.{List, Option, length, sym, ap, ◌∙◌}
use Rattle.eq_net.specs.Meaning.{if_there}
use Rattle.eq_names.specs.Tables.{number_of}
use Rattle.eq_verilog.specs.Trees.{Name, ModuleTree}
use Rattle.eq_verilog.specs.Hierarchy.{module_named}
use Rattle.eq_verilog.specs.Costs.{cost_below, design_cost}
use Rattle.eq_analysis.specs.Tabling.{trees_at}
use Rattle.eq_cost.specs.Counts.{told}
use Rattle.eq_cost.proofs.ValueLemmas.{alone_in, design_in}
use Rattle.eq_cost.proofs.designs.design_cost.Goals as goal

pub returns-in_ok-inside-in-Some : goal.returns-in_ok-inside-in-Some
returns-in_ok-inside-in-Some c =
    let all = trees_at c.args.tables.now in
    let top = c.args.top.now in
    let at = c.modules_by_number.ensures.there all top c.in-Some.place
    (ap (λ (names : List Name). number_of names top) (sym c.requires.named)
    ∙ ap (λ (n : Name). number_of c.args.names.now n) (sym c.bytes.ensures.bytes)
    ∙ sym c.find.ensures ∙ c.in-Some.is) in
    record {
      ok =
          design_in (design_cost all top) (if_there 0 (cost_below all (length all)) (module_named all top))
          c.in_ok-inside-in-Some.inside c.sum.result (c.cost_by_modules.ensures all top)
          (ap (λ (o : Option ModuleTree). told (if_there 0 (cost_below all (length all)) o)) at
          ∙ c.in_ok-inside-in-Some.ensures) c.sum.ensures;
    }

pub returns-in-None : goal.returns-in-None
returns-in-None c =
    let all = trees_at c.args.tables.now in
    let top = c.args.top.now in
    let nowhere = c.modules_by_number.ensures.nowhere all top
    (ap (λ (names : List Name). number_of names top) (sym c.requires.named)
    ∙ ap (λ (n : Name). number_of c.args.names.now n) (sym c.bytes.ensures.bytes)
    ∙ sym c.find.ensures ∙ c.in-None.is) in
    record {
      ok =
          alone_in (design_cost all top) (if_there 0 (cost_below all (length all)) (module_named all top))
          (c.cost_by_modules.ensures all top)
          (ap (λ (o : Option ModuleTree). if_there 0 (cost_below all (length all)) o) nowhere);
    }
