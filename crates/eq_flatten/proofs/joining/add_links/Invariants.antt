use Rattle.std.proofs.Common.{map, take}
use Rattle.std.specs.Prelude.{zip}
use Rattle.eq_net.specs.Tree.{trees_of}
use Rattle.eq_flatten.specs.Equating.{AddsEquations}
use Rattle.eq_flatten.specs.Joining.{all_joined, all_joined_cost}
use Rattle.eq_flatten.specs.Owning.{names_in}
use Rattle.eq_flatten.proofs.joining.add_links.Given as goal

abbrev pub invariant-loop-place : goal.invariant-loop-place
invariant-loop-place l =
    AddsEquations l.nets (trees_of l.fn.words) (trees_of l.words) l.fn.slots l.slots
    (all_joined l.nets (map names_in l.owned) (zip l.paths l.firsts) 1 (take l.place l.links))
    (all_joined_cost l.nets (map names_in l.owned) (zip l.paths l.firsts) 1 (take l.place l.links))
