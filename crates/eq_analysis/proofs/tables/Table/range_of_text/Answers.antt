use Rattle.std.proofs.Common.{Some, None, map, sym, ◌∙◌}
use Rattle.eq_verilog.specs.Trees.{item_tree}
use Rattle.eq_analysis.proofs.DeclaredLemmas.{range_told}
use Rattle.eq_analysis.proofs.tables.Table.range_of_text.Goals as goal

pub returns-in-Some : goal.returns-in-Some
returns-in-Some c =
    range_told (map item_tree c.args.self.now.within.now.items) c.args.text.now c.args.self.now.all.names
    c.args.self.now.all.found.items (Some c.in-Some.declared) c.args.self.now.all_are
    (sym c.in-Some.is ∙ c.first_declared_text.ensures)

pub returns-in-None : goal.returns-in-None
returns-in-None c =
    range_told (map item_tree c.args.self.now.within.now.items) c.args.text.now c.args.self.now.all.names
    c.args.self.now.all.found.items None c.args.self.now.all_are
    (sym c.in-None.is ∙ c.first_declared_text.ensures)
