-- Unit propagation as what it comes to: the least set that has what it began with and is settled.
use Rattle.std.specs.Prelude.{◌≡◌, ◌<◌, ◌≤◌, ◌⊎◌, List, length, All}
use Rattle.eq_proof.specs.Literal.{Literal}
use Rattle.eq_proof.specs.Sets.{IsFalse, IsSubset}
use Rattle.eq_proof.specs.Fresh.{IsSettled}
use Rattle.eq_proof.specs.Judgement.{IsJudged}
use Rattle.eq_proof.specs.Assigned.{Assigned}
use Rattle.eq_proof.specs.declared.judgement.Judgement.TheVariants.{Idle}
use Rattle.eq_proof.specs.declared.propagation.Finding.{Finding}
use Rattle.eq_proof.specs.declared.propagation.Finding.TheVariants.{Conflicting, Changed, Settled}

-- each settled set that has the old literals has the new ones
abbrev pub IsForced : List (List Literal) → List Literal → List Literal → Type 0
IsForced clauses old new = (set : List Literal) → IsSettled clauses set → IsSubset old set → IsSubset new set

-- no settled set has these literals
abbrev pub IsRefused : List (List Literal) → List Literal → Type 0
IsRefused clauses old = (set : List Literal) → IsSettled clauses set → ¬ IsSubset old set

-- no clause is falsified and none is unit
abbrev pub IsDone : List (List Literal) → List Literal → Type 0
IsDone clauses set = All (λ clause. IsJudged set clause Idle) clauses

-- what a sweep over all clauses finds
abbrev pub Sweeps : List (List Literal) → Assigned → Assigned → Finding → Type 0
Sweeps clauses old new Conflicting = IsRefused clauses old.lits
Sweeps clauses old new Changed = (length old.lits < length new.lits) × (length new.lits ≤ new.size)
Sweeps clauses old new Settled = (new.lits ≡ old.lits) × IsDone clauses new.lits

-- all literals of a clause but one are false
abbrev pub OthersFalse : List Literal → List Literal → Literal → Type 0
OthersFalse set clause l = All (λ m. (m ≡ l) ⊎ IsFalse set m) clause
