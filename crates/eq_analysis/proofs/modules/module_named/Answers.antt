use Rattle.std.proofs.Common.{List, map, sym, ap, ◌∙◌}
use Rattle.eq_names.specs.Tables.{number_of}
use Rattle.eq_verilog.specs.Trees.{Name, module_tree}
use Rattle.eq_analysis.proofs.modules.module_named.Goals as goal

pub returns-in-Some : goal.returns-in-Some
returns-in-Some c =
    c.module_at.ensures
    ∙ sym (c.modules_by_number.ensures.there (map (λ m. module_tree m.now) c.args.modules.now) c.args.name.now c.in-Some.place
    (ap (λ (names : List Name). number_of names c.args.name.now) (sym c.requires.named)
    ∙ ap (λ (n : Name). number_of c.args.names.now n) (sym c.bytes.ensures.bytes)
    ∙ sym c.find.ensures ∙ c.in-Some.is))

pub returns-in-None : goal.returns-in-None
returns-in-None c =
    sym (c.modules_by_number.ensures.nowhere (map (λ m. module_tree m.now) c.args.modules.now) c.args.name.now
    (ap (λ (names : List Name). number_of names c.args.name.now) (sym c.requires.named)
    ∙ ap (λ (n : Name). number_of c.args.names.now n) (sym c.bytes.ensures.bytes)
    ∙ sym c.find.ensures ∙ c.in-None.is))
