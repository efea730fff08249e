use Rattle.std.proofs.Common.{map, take}
use Rattle.std.specs.Prelude.{flat_map, zip}
use Rattle.eq_net.specs.Net.{bits_of}
use Rattle.eq_flatten.specs.Owning.{names_in}
use Rattle.eq_sequential.specs.inner.Happening.{AddsEvents}
use Rattle.eq_sequential.specs.inner.Processing.{path_processes}
use Rattle.eq_sequential.proofs.events.add_paths.Given as goal

abbrev pub invariant-loop-place : goal.invariant-loop-place
invariant-loop-place l =
    AddsEvents (bits_of l.nets) l.fn.events.items l.events.items
    (flat_map (path_processes l.nets (map names_in l.owned)) (take l.place (zip l.paths l.firsts)))
