use Rattle.std.proofs.Common.{suc, ◌++◌}
use Rattle.std.specs.Prelude.{flat_map}
use Rattle.eq_verilog.specs.Hierarchy.{paths_from}
use Rattle.eq_verilog.specs.Equations.{equations_of}
use Rattle.eq_flatten.specs.Paths.{links_from}
use Rattle.eq_flatten.specs.Summing.{link_at, own_at}
use Rattle.eq_flatten.proofs.Alike.{driven_so, equations_parts}
use Rattle.eq_flatten.proofs.summing.equations_by_links.Goals as goal

pub returns : goal.returns
returns c infos words slots all nets k top ends are =
    let ps = paths_from all (suc k) top.prefix top.of in
    driven_so infos words (equations_of all nets ps)
    (flat_map (own_at nets) ps ++ flat_map (link_at all nets) (links_from all k top)) slots
    (equations_parts all nets k top ends) are
