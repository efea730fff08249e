use Rattle.std.proofs.Common.{◌<◌, ◌≤◌, ◌-◌, ℕ, suc, get_or, length}
use Rattle.eq_proof.specs.Clause.{IsBefore}
use Rattle.eq_proof.specs.Literal.{Literal}
use Rattle.eq_wit.proofs.steps.is_clause.Given as goal

abbrev pub invariant-loop-place : goal.invariant-loop-place
invariant-loop-place l = (1 ≤ l.place) × ((i : ℕ) (d : Literal) → suc i < l.place →
    suc i < length l.lits → IsBefore (get_or l.lits i d) (get_or l.lits (suc i) d))

abbrev pub decreases-loop-place : goal.decreases-loop-place
decreases-loop-place l = length l.lits - l.place
