-- What a clause says under a set of true literals.
use Rattle.std.specs.Prelude.{List, Option, None, Some}
use Rattle.eq_proof.specs.Literal.{Literal}
use Rattle.eq_proof.specs.Sets.{IsFalsified, IsUnit}
use Rattle.eq_proof.specs.declared.judgement.Judgement.{Judgement}
use Rattle.eq_proof.specs.declared.judgement.Judgement.TheVariants.{Conflict, Propagates, Idle}

-- all literals are false; or one has no value and all others are false; or neither
abbrev pub IsJudged : List Literal → List Literal → Judgement → Type 0
IsJudged set clause Conflict = IsFalsified set clause
IsJudged set clause (Propagates l) = IsUnit set clause l
IsJudged set clause Idle = (¬ IsFalsified set clause) × ((l : Literal) → ¬ IsUnit set clause l)

-- the same of literals none of which is true, by the one without value
abbrev pub IsSeen : List Literal → List Literal → Option Literal → Type 0
IsSeen set lits None = IsFalsified set lits
IsSeen set lits (Some l) = IsUnit set lits l
