use Rattle.std.proofs.Common.{◌≡◌, map, take}
use Rattle.eq_verilog.specs.Declarations.{nets_in as names_of}
use Rattle.eq_verilog.specs.Nets.{alone, nets_at}
use Rattle.eq_analysis.specs.Tabling.{trees_at}
use Rattle.eq_flatten.specs.Owning.{names_in, nets_in}
use Rattle.eq_flatten.proofs.owning.all_owned.Given as goal

abbrev pub invariant-loop-table : goal.invariant-loop-table
invariant-loop-table l = record {
  names : map names_in l.found.items ≡ map names_of (trees_at (take l.table-index l.tables));
  nets : map nets_in l.found.items ≡ map (λ m. nets_at (alone m)) (trees_at (take l.table-index l.tables));
}
