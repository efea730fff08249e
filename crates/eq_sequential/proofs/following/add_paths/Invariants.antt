use Rattle.std.proofs.Common.{map, take}
use Rattle.std.specs.Prelude.{flat_map, sum_by, zip}
use Rattle.eq_net.specs.Tree.{trees_of}
use Rattle.eq_flatten.specs.Owning.{names_in}
use Rattle.eq_layout.specs.Spending.{path_process_cost}
use Rattle.eq_sequential.specs.inner.Processing.{path_processes, AddsProcesses}
use Rattle.eq_sequential.proofs.following.add_paths.Given as goal

abbrev pub invariant-loop-place : goal.invariant-loop-place
invariant-loop-place l =
    AddsProcesses l.nets (trees_of l.fn.words) (trees_of l.words) l.fn.slots l.slots
    (flat_map (path_processes l.nets (map names_in l.owned)) (take l.place (zip l.paths l.firsts)))
    (sum_by (path_process_cost l.nets (map names_in l.owned)) (take l.place (zip l.paths l.firsts)))
