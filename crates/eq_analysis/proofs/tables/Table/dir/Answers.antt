use Rattle.std.proofs.Common.{Some, None, map, sym, ◌∙◌}
use Rattle.eq_verilog.specs.Trees.{item_tree}
use Rattle.eq_analysis.proofs.DeclaredLemmas.{dir_told}
use Rattle.eq_analysis.proofs.tables.Table.dir.Goals as goal

pub returns-in-Some : goal.returns-in-Some
returns-in-Some c =
    c.dir_of_kind.ensures
    ∙ dir_told (map item_tree c.args.self.now.within.now.items) c.args.name.now c.args.self.now.directions.names
    c.args.self.now.directions.found.items (Some c.in-Some.declared) c.args.self.now.directions_are
    (sym c.in-Some.is ∙ c.first_declared.ensures)

pub returns-in-None : goal.returns-in-None
returns-in-None c =
    dir_told (map item_tree c.args.self.now.within.now.items) c.args.name.now c.args.self.now.directions.names
    c.args.self.now.directions.found.items None c.args.self.now.directions_are
    (sym c.in-None.is ∙ c.first_declared.ensures)
