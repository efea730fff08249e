use Rattle.std.proofs.Common.{◌≡◌, ◌++◌, map, take}
use Rattle.eq_model.specs.Frames.{values}
use Rattle.eq_net.specs.Net.{number_of}
use Rattle.eq_net.proofs.word.push_named.Given as goal

abbrev pub invariant-loop-name : goal.invariant-loop-name
invariant-loop-name l = l.stack.items ≡ l.fn.stack.items ++ map (λ n. values l.now (number_of l.nets n)) (take l.name-index l.names)
