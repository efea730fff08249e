use Rattle.std.proofs.Common.{map, ◌∙◌}
use Rattle.eq_verilog.specs.Trees.{item_tree}
use Rattle.eq_analysis.specs.declared.declaring.Class.TheVariants.{All}
use Rattle.eq_analysis.proofs.DeclaredLemmas.{any_told}
use Rattle.eq_analysis.proofs.tables.Table.is_declared.Goals as goal

pub returns : goal.returns
returns c =
    c.is_some.ensures
    ∙ any_told All (map item_tree c.args.self.now.within.now.items) c.args.name.now c.args.self.now.all.names
    c.args.self.now.all.found.items c.first_declared.result c.args.self.now.all_are c.first_declared.ensures
