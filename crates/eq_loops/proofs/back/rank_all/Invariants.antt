use Rattle.std.proofs.Common.{ℕ}
use Rattle.eq_loops.specs.inner.Back.{LeadBack, unranked}
use Rattle.eq_loops.proofs.back.rank_all.Given as goal

abbrev pub invariant-loop : goal.invariant-loop
invariant-loop l = (b : ℕ) → LeadBack l.edges b l.initial.ranks l.initial.vias → LeadBack l.edges b l.ranks l.vias

abbrev pub decreases-loop : goal.decreases-loop
decreases-loop l = unranked l.ranks
