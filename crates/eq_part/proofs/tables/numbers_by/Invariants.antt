use Rattle.std.proofs.Common.{◌≡◌, take, map}
use Rattle.eq_net.specs.Net.{number_of}
use Rattle.eq_part.proofs.tables.numbers_by.Given as goal

abbrev pub invariant-loop-name : goal.invariant-loop-name
invariant-loop-name l = l.numbers ≡ map (number_of l.nets) (take l.name-index l.names)
