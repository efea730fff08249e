-- The instances and nets of a design, before its words are made.
use Rattle.std.specs.Prelude.{◌≡◌, List, All, None, Some, length, map}
use Rattle.eq_net.specs.Net.{bits_of}
use Rattle.eq_net.specs.Nets.{net_of}
use Rattle.eq_verilog.specs.Trees.{Name, ModuleTree}
use Rattle.eq_verilog.specs.Declarations.{nets_in}
use Rattle.eq_verilog.specs.Designs.{Flat, flat_of}
use Rattle.eq_verilog.specs.Firsts.{first_again, first_of}
use Rattle.eq_verilog.specs.Hierarchy.{module_named, paths as all_paths, reached}
use Rattle.eq_verilog.specs.Nets.{full_names}
use Rattle.eq_verilog.specs.Refusals.{module_faults}
use Rattle.eq_analysis.specs.Tabling.{trees_at}
use Rattle.eq_flatten.specs.Equating.{AreStarts}
use Rattle.eq_flatten.specs.Flat.{IsFlat}
use Rattle.eq_flatten.specs.Owning.{names_in}
use Rattle.eq_flatten.specs.Paths.{path_of, top_path, HasPaths}
use Rattle.eq_flatten.specs.Spelled.{IsModuleSpelled}
use Rattle.eq_layout.specs.declared.layout.Layout.{Layout}

-- all modules
abbrev pub trees_of : Layout → List ModuleTree
trees_of l = trees_at l.tables.items

-- the whole design of a top among these modules
abbrev pub design_in : Layout → Name → Flat
design_in l top = flat_of (trees_of l) top

-- the layout has the instances of the design with this top, their nets, and the numbers of the nets' first bits
pub record IsLaidOut (top : Name) (l : Layout) : Type 0 where
  pub names : map names_in l.owned.items ≡ map nets_in (trees_of l)
  pub there : module_named (trees_of l) top ≡ None → ⊥
  pub paths : (m : ModuleTree) → module_named (trees_of l) top ≡ Some m → HasPaths (trees_of l) (top_path m) l.found
  pub paths_are : map path_of l.found.paths.items ≡ all_paths (trees_of l) top
  pub flat : IsFlat l.found.paths.items (length l.found.paths.items) l.flat.nets.items l.flat.firsts.items
  pub nets : map net_of l.flat.nets.items ≡ (design_in l top).nets
  pub starts : AreStarts l.flat.nets.items l.starts.starts.items
  pub bits : l.starts.bits ≡ bits_of l.flat.nets.items

-- no module that is reached is refused, no two nets have one full name, and the modules are as a text has them
pub record AreSound (top : Name) (l : Layout) : Type 0 where
  pub faultless : first_of (module_faults (trees_of l) top (reached (trees_of l) top)) ≡ None
  pub apart : first_again (full_names (map net_of l.flat.nets.items)) ≡ None
  pub spelled : All IsModuleSpelled (trees_of l)
