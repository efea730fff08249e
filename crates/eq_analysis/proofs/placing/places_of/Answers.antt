use Rattle.std.proofs.Common.{length, refl}
use Rattle.eq_verilog.specs.Trees.{module_tree}
use Rattle.eq_analysis.proofs.PlacingLemmas.{placed_all}
use Rattle.eq_analysis.proofs.placing.places_of.Goals as goal

pub returns : goal.returns
returns c =
    placed_all (module_tree c.args.table.now.within.now) (length c.in_ok-found.found.table)
    (record { names = c.in_ok-found.found.table; starts = c.in_ok-starts.starts }) refl c.in_ok-found.ensures
    c.in_ok-starts.ensures
