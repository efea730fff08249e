-- The module that a table is of.
use Rattle.std.specs.Prelude.{◌≡◌, List, [], ◌∷◌, Some, map}
use Rattle.eq_verilog.specs.Trees.{ModuleTree, module_tree}
use Rattle.eq_verilog.specs.Hierarchy.{module_named}
use Rattle.eq_analysis.specs.declared.tables.Table.{Table}

-- the module of a table
abbrev pub tree_at : Table → ModuleTree
tree_at t = module_tree t.within.now

abbrev pub trees_at : List Table → List ModuleTree
trees_at ts = map tree_at ts

-- each of these is what is found by its name
abbrev pub AreNamed : List ModuleTree → List ModuleTree → Type 0
AreNamed all [] = Unit {0}
AreNamed all (m ∷ ms) = (module_named all m.name ≡ Some m) × AreNamed all ms
