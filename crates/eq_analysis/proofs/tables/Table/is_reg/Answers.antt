use Rattle.std.proofs.Common.{map, ◌∙◌}
use Rattle.eq_verilog.specs.Trees.{item_tree}
use Rattle.eq_analysis.specs.declared.declaring.Class.TheVariants.{Variable}
use Rattle.eq_analysis.proofs.DeclaredLemmas.{any_told}
use Rattle.eq_analysis.proofs.tables.Table.is_reg.Goals as goal

pub returns : goal.returns
returns c =
    c.is_some.ensures
    ∙ any_told Variable (map item_tree c.args.self.now.within.now.items) c.args.name.now c.args.self.now.variables.names
    c.args.self.now.variables.found.items c.first_declared.result c.args.self.now.variables_are c.first_declared.ensures
