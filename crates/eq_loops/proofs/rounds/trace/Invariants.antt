use Rattle.std.proofs.Common.{◌<◌, slice_index}
use Rattle.eq_model.specs.System.{System}
use Rattle.eq_loops.specs.inner.Back.{IsSoundFor, IsTraced}
use Rattle.eq_loops.proofs.rounds.trace.Given as goal

abbrev pub invariant-loop-round : goal.invariant-loop-round
invariant-loop-round l = (0 < slice_index l.back.ranks.items l.node) × ((s : System) → IsSoundFor s l.edges l.bits →
    IsTraced s l.edges l.bits l.b l.back.ranks.items l.node l.round.items)

abbrev pub decreases-loop-round : goal.decreases-loop-round
decreases-loop-round l = slice_index l.back.ranks.items l.node
