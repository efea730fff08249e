use Rattle.std.proofs.Common.{map, take}
use Rattle.std.specs.Prelude.{flat_map, zip}
use Rattle.eq_flatten.specs.Beginning.{path_initials, AddsInitials}
use Rattle.eq_flatten.specs.Owning.{names_in}
use Rattle.eq_flatten.proofs.initials.add_initials.Given as goal

abbrev pub invariant-loop-place : goal.invariant-loop-place
invariant-loop-place l =
    AddsInitials l.fn.constants.items l.constants.items l.fn.slots l.slots
    (flat_map (path_initials l.nets (map names_in l.owned)) (take l.place (zip l.paths l.firsts)))
