use Rattle.std.proofs.Common.{◌≡◌, List, map, take}
use Rattle.std.specs.Prelude.{All, flat_map}
use Rattle.eq_verilog.specs.Trees.{ModuleTree}
use Rattle.eq_flatten.specs.Paths.{path_of, IsPath}
use Rattle.eq_drivers.specs.inner.Flagging.{module_flags, path_flags}
use Rattle.eq_drivers.proofs.flagging.net_flags.Given as goal

abbrev pub invariant-loop-path : goal.invariant-loop-path
invariant-loop-path l = (trees : List ModuleTree) → All (IsPath trees) l.paths → l.all ≡ map module_flags trees →
    l.flags.items ≡ flat_map path_flags (map path_of (take l.path-index l.paths))
