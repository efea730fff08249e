-- Cited by proofs alone; nothing here has to be believed.
-- The clauses that watch a literal which became false are visited one after the other.
use Rattle.std.specs.Prelude.{◌≡◌, ◌≢◌, ℕ, ◌+◌, ◌<◌, ◌⊎◌, suc, List, All, Contains, Option, None, Some, length, slice_get}
use Rattle.eq_proof.specs.Literal.{Literal, negation}
use Rattle.eq_proof.specs.Sets.{IsFalse, HasNoValue}
use Rattle.eq_cdcl.specs.inner.Assignment.{Assignment, extended}
use Rattle.eq_cdcl.specs.inner.Slots.{IsProper}
use Rattle.eq_cdcl.specs.inner.Sound.{IsSound}
use Rattle.eq_cdcl.specs.inner.Found.{IsConflict}
use Rattle.eq_cdcl.specs.inner.Watched.{StaysTrue, HasLiteral, IsWatched, Watching, list_of}
use Rattle.eq_cdcl.specs.declared.trail.Reason.TheVariants.{Implied}
use Rattle.eq_cdcl.specs.declared.watches.Pair.{Pair}
use Rattle.eq_cdcl.specs.declared.watches.Watch.{Watch}
use Rattle.eq_cdcl.specs.declared.watches.Watches.{Watches}
use Rattle.eq_cdcl.specs.declared.visiting.Visited.{Visited}
use Rattle.eq_cdcl.specs.declared.visiting.Visited.TheVariants.{Kept, Moved, Conflict}

-- the clause at a place of what is known watches the literal only if it has a true literal that stays as long as the one at the head
abbrev pub IsSeen : List (List Literal) → Assignment → ℕ → List Pair → Literal → ℕ → Type 0
IsSeen known a head pairs f n = (clause : List Literal) (pair : Pair) → slice_get known n ≡ Some clause → slice_get pairs n ≡ Some pair → HasLiteral pair f → StaysTrue a (suc head) clause

-- the literal whose negation stands at the head is visited, and the first entries of its list have been seen
pub record IsVisiting (known : List (List Literal)) (a : Assignment) (head : ℕ) (pairs : List Pair) (lists : List (List Watch)) (f : Literal) (i : ℕ) : Type 0 where
  pub sound : IsSound known a
  pub watched : IsWatched known a head pairs lists
  pub here : slice_get a.lits head ≡ Some (negation f)
  pub seen : (j : ℕ) (w : Watch) → j < i → slice_get (list_of lists f) j ≡ Some w → IsSeen known a head pairs f w.clause

-- the same of the program's watches
abbrev pub Visiting : List (List Literal) → Assignment → Watches → Literal → ℕ → Type 0
Visiting known a w f i = IsVisiting known a w.head w.pairs.items w.lists.items f i

-- the next entry is seen, or is gone, or its clause is falsified
abbrev pub Visits : List (List Literal) → Assignment → Watches → Watches → Literal → ℕ → Visited → Type 0
Visits known a old new f i Kept = Visiting known a new f (i + 1) × (length (list_of new.lists.items f) ≡ length (list_of old.lists.items f))
Visits known a old new f i Moved = Visiting known a new f i × (length (list_of new.lists.items f) + 1 ≡ length (list_of old.lists.items f))
Visits known a old new f i (Conflict number) = Visiting known a new f i × IsConflict known a.lits number

-- the literal at the head has been visited, or a clause is falsified
abbrev pub IsVisited : List (List Literal) → Assignment → Watches → Option ℕ → Type 0
IsVisited known a w None = IsWatched known a (w.head + 1) w.pairs.items w.lists.items
IsVisited known a w (Some number) = Watching known a w × IsConflict known a.lits number

-- all literals of the clause but one are false
abbrev pub AreFalseBut : List Literal → List Literal → Literal → Type 0
AreFalseBut set clause l = All (λ m. (m ≡ l) ⊎ IsFalse set m) clause

-- a literal of the clause that isn't false, other than the one given
pub record IsAnother (set clause : List Literal) (other l : Literal) : Type 0 where
  pub member : Contains clause l
  pub different : l ≢ other
  pub proper : IsProper l
  pub live : ¬ IsFalse set l

-- the literal became true by the clause at a place, or was true, or it is false
abbrev pub Implies : Assignment → Assignment → Literal → ℕ → Visited → Type 0
Implies old new l n Kept = IsProper l × ((HasNoValue old.lits l × (new ≡ extended old l (Implied (n + 1)))) ⊎ (Contains old.lits l × (new ≡ old)))
Implies old new l n Moved = ⊥
Implies old new l n (Conflict number) = (number ≡ n + 1) × (new ≡ old) × IsFalse old.lits l
