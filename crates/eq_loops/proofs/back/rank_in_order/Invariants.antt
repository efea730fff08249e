use Rattle.std.proofs.Common.{ℕ}
use Rattle.eq_loops.specs.inner.Back.{LeadBack}
use Rattle.eq_loops.proofs.back.rank_in_order.Given as goal

abbrev pub invariant-loop-e : goal.invariant-loop-e
invariant-loop-e l = (b : ℕ) → LeadBack l.edges b l.initial.ranks l.initial.vias → LeadBack l.edges b l.ranks l.vias
