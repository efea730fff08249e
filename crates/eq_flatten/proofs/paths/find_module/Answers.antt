use Rattle.std.proofs.Common.{List, map, sym, ap, ◌∙◌}
use Rattle.eq_names.specs.Tables.{number_of}
use Rattle.eq_verilog.specs.Trees.{Name, module_tree}
use Rattle.eq_flatten.proofs.paths.find_module.Goals as goal

pub returns-in-Some-clause-there : goal.returns-in-Some-clause-there
returns-in-Some-clause-there c =
    c.placed_at.ensures.there
    ∙ sym (c.modules_by_number.ensures.there (map (λ m. module_tree m.now) c.args.modules.now) c.args.name.now c.in-Some.place
    (ap (λ (names : List Name). number_of names c.args.name.now) (sym c.requires.named)
    ∙ ap (λ (n : Name). number_of c.args.names.now n) (sym c.bytes.ensures.bytes)
    ∙ sym c.find.ensures ∙ c.in-Some.is))

pub returns-in-None-clause-there : goal.returns-in-None-clause-there
returns-in-None-clause-there c =
    sym (c.modules_by_number.ensures.nowhere (map (λ m. module_tree m.now) c.args.modules.now) c.args.name.now
    (ap (λ (names : List Name). number_of names c.args.name.now) (sym c.requires.named)
    ∙ ap (λ (n : Name). number_of c.args.names.now n) (sym c.bytes.ensures.bytes)
    ∙ sym c.find.ensures ∙ c.in-None.is))
