-- A net of a module in the instance of a path.
use Rattle.std.specs.Prelude.{◌≡◌, ◌++◌, ℕ, List, length, map, take}
use Rattle.eq_model.specs.Nets.{Net}
use Rattle.eq_verilog.specs.Trees.{Name}
use Rattle.eq_net.specs.declared.types.NetInfo.{NetInfo}
use Rattle.eq_net.specs.Nets.{net_of}
use Rattle.eq_verilog.specs.Nets.{dir_at, nets_of}
use Rattle.eq_flatten.specs.declared.paths.Path.{Path}
use Rattle.eq_flatten.specs.Forms.{numbered}
use Rattle.eq_flatten.specs.Paths.{path_of}

abbrev pub within : Name → Net → Net
within prefix n = record {
  name = prefix ++ n.name;
  range = n.range;
  dir = dir_at prefix n.dir;
  automatic = n.automatic;
}

-- the number of the first net of path k
abbrev pub first_of : List Path → ℕ → ℕ
first_of paths k = length (nets_of (take k (map path_of paths)))

-- the nets of the first n paths, and the number of the first of each
pub record IsFlat (paths : List Path) (n : ℕ) (nets : List NetInfo) (firsts : List ℕ) : Type 0 where
  pub are : map net_of nets ≡ nets_of (take n (map path_of paths))
  pub firsts_are : firsts ≡ numbered (first_of paths) n
