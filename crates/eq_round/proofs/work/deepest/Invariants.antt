use Rattle.std.proofs.Common.{◌≡◌, take}
use Rattle.eq_round.specs.Work.{deepest}
use Rattle.eq_round.proofs.work.deepest.Given as goal

abbrev pub invariant-loop-strategy : goal.invariant-loop-strategy
invariant-loop-strategy l = l.depth ≡ deepest (take l.strategy-index l.strategies)
