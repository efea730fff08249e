-- A sweep over all clauses, one clause after the other.
use Rattle.std.proofs.Common.{◌≡◌, ℕ, ◌+◌, ◌<◌, ◌≤◌, Bool, true, false, Some, List, [], ◌∷◌, ◌++◌, length, take, slice_get, arith, refl, sym, ap, ◌∙◌, subst}
use Rattle.std.proofs.lemmas.List.{length_push, take_all}
use Rattle.std.proofs.lemmas.List.Elements.{All-push}
use Rattle.eq_proof.specs.Literal.{Literal}
use Rattle.eq_proof.specs.Assigned.{Assigned}
use Rattle.eq_proof.specs.Sets.{IsUnit, IsSubset}
use Rattle.eq_proof.specs.Judgement.{IsJudged}
use Rattle.eq_proof.specs.declared.judgement.Judgement.TheVariants.{Idle}
use Rattle.eq_proof.specs.declared.propagation.Finding.{Finding}
use Rattle.eq_proof.specs.declared.propagation.Finding.TheVariants.{Changed, Settled}
use Rattle.eq_proof.specs.Propagation.{IsForced, IsDone, Sweeps}
use Rattle.std.specs.Prelude.{MatchBool}
use Rattle.eq_proof.proofs.Lists.{member_at, taken_at}
use Rattle.eq_proof.proofs.Forcing.{forced_more, subset_more}

-- what holds after the clauses up to a place
pub record IsSwept (clauses : List (List Literal)) (old : Assigned) (place : ℕ) (new : Assigned) (changed : Bool) : Type 0 where
  pub size : new.size ≡ old.size
  pub kept : IsSubset old.lits new.lits
  pub forced : IsForced clauses old.lits new.lits
  pub longer : length old.lits ≤ length new.lits
  pub grown : changed ≡ true → (length old.lits < length new.lits) × (length new.lits ≤ new.size)
  pub still : changed ≡ false → (new.lits ≡ old.lits) × IsDone (take place clauses) new.lits

pub swept_start : (clauses : List (List Literal)) (old : Assigned) → IsSwept clauses old 0 old false
swept_start clauses old = record {
  size = refl;
  kept = λ l h. h;
  forced = λ set settled sub. sub;
  longer = omega arith;
  grown = λ e. absurd (cc);
  still = λ e. (refl, λ k d h. absurd (omega arith));
}

-- a unit clause
pub swept_unit : (clauses : List (List Literal)) (old mid new : Assigned) (place : ℕ) (changed : Bool) (clause : List Literal) (l : Literal) → IsSwept clauses old place mid changed → slice_get clauses place ≡ Some clause → IsUnit mid.lits clause l
    → new.lits ≡ mid.lits ++ l ∷ [] → length new.lits ≤ new.size → new.size ≡ mid.size → IsSwept clauses old (place + 1) new true
swept_unit clauses old mid new place changed clause l swept at unit lits room size =
    let P : List Literal → Type 0 = λ lits. IsSubset old.lits lits in
    let Q : List Literal → Type 0 = λ lits. IsForced clauses old.lits lits in
    let more = length_push mid.lits l in
    let len : length new.lits ≡ length mid.lits + 1 = ap length lits ∙ more in
    record {
      size = size ∙ swept.size;
      kept = subst P (sym lits) (subset_more old.lits mid.lits l swept.kept);
      forced = subst Q (sym lits) (forced_more clauses old.lits mid.lits clause l (member_at clauses place clause at) unit swept.forced);
      longer = omega (arith, swept.longer);
      grown = λ e. (omega (arith, swept.longer), room);
      still = λ e. absurd (cc);
    }

-- a clause that says nothing
pub swept_idle : (clauses : List (List Literal)) (old mid : Assigned) (place : ℕ) (changed : Bool) (clause : List Literal) → IsSwept clauses old place mid changed → slice_get clauses place ≡ Some clause → IsJudged mid.lits clause Idle
    → IsSwept clauses old (place + 1) mid changed
swept_idle clauses old mid place changed clause swept at idle =
    let more = taken_at clauses place clause at in
    let P : List (List Literal) → Type 0 = λ some. IsDone some mid.lits in
    record {
      size = swept.size;
      kept = swept.kept;
      forced = swept.forced;
      longer = swept.longer;
      grown = swept.grown;
      still = λ e. ((swept.still e).0, subst P (sym more) (All-push (λ clause. IsJudged mid.lits clause Idle) (take place clauses) clause (swept.still e).1 idle));
    }

-- what a sweep without conflict found
pub swept_all : (clauses : List (List Literal)) (old new : Assigned) (place : ℕ) (changed : Bool) (finding : Finding) → IsSwept clauses old place new changed → length clauses ≤ place → MatchBool changed (finding ≡ Changed) (finding ≡ Settled)
    → Sweeps clauses old new finding
swept_all clauses old new place changed finding swept all = found changed swept.grown swept.still where
  found : (b : Bool) → (b ≡ true → (length old.lits < length new.lits) × (length new.lits ≤ new.size)) → (b ≡ false → (new.lits ≡ old.lits) × IsDone (take place clauses) new.lits) → MatchBool b (finding ≡ Changed) (finding ≡ Settled) → Sweeps clauses old new finding
  found true grown still is = subst (Sweeps clauses old new) (sym is) (grown refl)
  found false grown still is =
      let P : List (List Literal) → Type 0 = λ some. IsDone some new.lits in
      let settled : Sweeps clauses old new Settled = ((still refl).0, subst P (take_all place clauses all) (still refl).1) in
      subst (Sweeps clauses old new) (sym is) settled
