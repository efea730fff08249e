use Rattle.std.proofs.Common.{◌≡◌, List, map}
use Rattle.std.specs.Prelude.{All}
use Rattle.eq_verilog.specs.Trees.{ModuleTree}
use Rattle.eq_verilog.specs.Nets.{alone, nets_at}
use Rattle.eq_flatten.specs.Flat.{IsFlat}
use Rattle.eq_flatten.specs.Owning.{nets_in}
use Rattle.eq_flatten.specs.Paths.{IsPath}
use Rattle.eq_flatten.proofs.flat.flat_nets.Given as goal

abbrev pub invariant-loop-path : goal.invariant-loop-path
invariant-loop-path l = (all : List ModuleTree) → All (IsPath all) l.paths →
    map nets_in l.owned ≡ map (λ m. nets_at (alone m)) all → IsFlat l.paths l.path-index l.nets.items l.firsts.items
