use Rattle.std.proofs.Common.{List, Option, sym, ap, ◌∙◌}
use Rattle.eq_net.specs.Meaning.{if_there}
use Rattle.eq_names.specs.Tables.{number_of}
use Rattle.eq_verilog.specs.Trees.{ModuleTree, Name}
use Rattle.eq_verilog.specs.Costs.{cost_below}
use Rattle.eq_analysis.specs.Tabling.{trees_at}
use Rattle.eq_cost.specs.Counts.{told}
use Rattle.eq_cost.proofs.ValueLemmas.{if_some_at}
use Rattle.eq_cost.proofs.values.value_named.Goals as goal

pub returns-in-Some : goal.returns-in-Some
returns-in-Some c =
    let all = trees_at c.args.tables.now in
    if_some_at all c.args.values.now c.args.of.now c.in-Some.place c.value_at.result
    (c.modules_by_number.ensures.there all c.args.of.now c.in-Some.place
    (ap (λ (names : List Name). number_of names c.args.of.now) (sym c.requires.named)
    ∙ ap (λ (n : Name). number_of c.args.names.now n) (sym c.bytes.ensures.bytes)
    ∙ sym c.find.ensures ∙ c.in-Some.is)) c.value_at.ensures

pub returns-in-None : goal.returns-in-None
returns-in-None c = λ k j are most.
    let all = trees_at c.args.tables.now in
    ap (λ (o : Option ModuleTree). told (if_there 0 (cost_below all j) o))
    (c.modules_by_number.ensures.nowhere all c.args.of.now
    (ap (λ (names : List Name). number_of names c.args.of.now) (sym c.requires.named)
    ∙ ap (λ (n : Name). number_of c.args.names.now n) (sym c.bytes.ensures.bytes)
    ∙ sym c.find.ensures ∙ c.in-None.is))
