-- Mirrors src/flagging.rt; nothing here has to be believed.
use Rattle.std.specs.Prelude.{◌++◌, List, [], ◌∷◌, Bool, map, replicate}
use Rattle.eq_model.specs.Nets.{Net, net_width}
use Rattle.eq_verilog.specs.Trees.{ModuleTree}
use Rattle.eq_verilog.specs.Declarations.{is_reg, nets_in}
use Rattle.eq_verilog.specs.Hierarchy.{Path}

-- of each net of a module whether it is a reg
abbrev pub module_flags : ModuleTree → List Bool
module_flags m = map (is_reg m) (nets_in m)

abbrev pub path_flags : Path → List Bool
path_flags p = module_flags p.of

-- of each bit the flag of its net
abbrev pub spread : List Net → List Bool → List Bool
spread [] flags = []
spread (n ∷ ns) [] = []
spread (n ∷ ns) (t ∷ ts) = replicate (net_width n) t ++ spread ns ts
