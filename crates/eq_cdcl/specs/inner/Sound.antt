-- Cited by proofs alone; nothing here has to be believed.
-- What holds of a trail all the time: why each literal is on it.
--
-- Propagation runs to the end before each decision, so what stands before a decision is settled: it
-- falsifies no known clause and makes none unit. A literal that isn't a decision is the one that its
-- reason, a known clause, leaves open when the literals before it are true.
use Rattle.std.specs.Prelude.{◌≡◌, ℕ, List, length, take, slice_get, Some}
use Rattle.eq_proof.specs.Literal.{Literal}
use Rattle.eq_proof.specs.Sets.{IsUnit}
use Rattle.eq_proof.specs.Assigned.{AllBelow}
use Rattle.eq_proof.specs.Derivation.{HasNumber}
use Rattle.eq_proof.specs.Fresh.{IsSettled}
use Rattle.eq_cdcl.specs.inner.Assignment.{Assignment}
use Rattle.eq_cdcl.specs.declared.trail.Reason.{Reason}
use Rattle.eq_cdcl.specs.declared.trail.Reason.TheVariants.{Decision, Implied}

-- no two places have literals of one variable
abbrev pub AreApart : List Literal → Type 0
AreApart lits = (p q : ℕ) (a b : Literal) → slice_get lits p ≡ Some a → slice_get lits q ≡ Some b → a.var ≡ b.var → p ≡ q

-- why a literal came after those before it
abbrev pub IsExplained : List (List Literal) → List Literal → Literal → Reason → Type 0
IsExplained known before l Decision = IsSettled known before
IsExplained known before l (Implied number) = (clause : List Literal) × HasNumber known number clause × IsUnit before clause l

-- the literals are of different variables, and each is explained
pub record IsSound (known : List (List Literal)) (a : Assignment) : Type 0 where
  pub same : length a.reasons ≡ length a.lits
  pub apart : AreApart a.lits
  pub within : AllBelow a.size a.lits
  pub explained : (place : ℕ) (l : Literal) (reason : Reason) → slice_get a.lits place ≡ Some l → slice_get a.reasons place ≡ Some reason → IsExplained known (take place a.lits) l reason
