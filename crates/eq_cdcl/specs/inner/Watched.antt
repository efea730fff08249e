-- Cited by proofs alone; nothing here has to be believed.
-- Two watched literals a clause.
--
-- A clause whose watched literal became false has a true literal that stays at least as long: no decision stands
-- between the two. So what is cut off at a decision never leaves a watched literal false without a true one. Where
-- all literals of the trail have been visited, a clause whose two watched literals aren't false is neither falsified
-- nor unit, and any other has a true literal.
use Rattle.std.specs.Prelude.{◌≡◌, ◌≢◌, ℕ, ◌*◌, ◌<◌, ◌≤◌, ◌⊎◌, suc, List, [], ◌∷◌, ◌++◌, length, Contains, slice_get, slice_set, Some, slice_index_or}
use Rattle.eq_proof.specs.Literal.{Literal, negation, code_of}
use Rattle.eq_cdcl.specs.inner.Assignment.{Assignment}
use Rattle.eq_cdcl.specs.inner.Slots.{IsProper}
use Rattle.eq_cdcl.specs.inner.Listing.{IsAdded, IsTakenOut}
use Rattle.eq_cdcl.specs.declared.trail.Reason.TheVariants.{Decision}
use Rattle.eq_cdcl.specs.declared.watches.Pair.{Pair}
use Rattle.eq_cdcl.specs.declared.watches.Watch.{Watch}
use Rattle.eq_cdcl.specs.declared.watches.Watches.{Watches}

-- the clause has a true literal, and no decision stands from a place on up to it
pub record StaysTrue (a : Assignment) (start : ℕ) (clause : List Literal) : Type 0 where
  pub literal : Literal
  pub member : Contains clause literal
  pub proper : IsProper literal
  pub place : ℕ
  pub there : slice_get a.lits place ≡ Some literal
  pub level : (d : ℕ) → start ≤ d → d ≤ place → slice_get a.reasons d ≢ Some Decision

-- the entries of the clauses that watch a literal
abbrev pub list_of : List (List Watch) → Literal → List Watch
list_of lists l = slice_index_or lists (code_of l) []

-- a clause has an entry in a literal's list
abbrev pub IsListed : List (List Watch) → ℕ → Literal → Type 0
IsListed lists n l = (w : Watch) × Contains (list_of lists l) w × (w.clause ≡ n)

-- where a watched literal is false, and has been visited, the clause has a true literal that stays as long
abbrev pub IsQuietFor : Assignment → ℕ → List Literal → Literal → Type 0
IsQuietFor a head clause l = (p : ℕ) → p < head → slice_get a.lits p ≡ Some (negation l) → StaysTrue a (suc p) clause

-- a clause watches two of its literals
pub record IsOnWatch (a : Assignment) (head : ℕ) (lists : List (List Watch)) (n : ℕ) (clause : List Literal) (pair : Pair) : Type 0 where
  pub different : pair.first ≢ pair.second
  pub first_listed : IsListed lists n pair.first
  pub second_listed : IsListed lists n pair.second
  pub first_quiet : IsQuietFor a head clause pair.first
  pub second_quiet : IsQuietFor a head clause pair.second

-- a clause has a true literal of level 0, or watches two of its literals
pub record IsMinded (a : Assignment) (head : ℕ) (lists : List (List Watch)) (n : ℕ) (clause : List Literal) (pair : Pair) : Type 0 where
  pub first : Contains clause pair.first
  pub second : Contains clause pair.second
  pub first_proper : IsProper pair.first
  pub second_proper : IsProper pair.second
  pub watched : StaysTrue a 0 clause ⊎ IsOnWatch a head lists n clause pair

-- the blocker of an entry is a literal of its clause
abbrev pub IsEntry : List (List Literal) → Watch → Type 0
IsEntry known w = (clause : List Literal) × (slice_get known w.clause ≡ Some clause) × Contains clause w.blocker

-- each clause is minded, up to the literals that haven't been visited
pub record IsWatched (known : List (List Literal)) (a : Assignment) (head : ℕ) (pairs : List Pair) (lists : List (List Watch)) : Type 0 where
  pub count : length pairs ≡ length known
  pub room : length lists ≡ 2 * a.size
  pub entries : (k : ℕ) (w : Watch) → Contains (slice_index_or lists k []) w → IsEntry known w
  pub minded : (n : ℕ) (clause : List Literal) (pair : Pair) → slice_get known n ≡ Some clause → slice_get pairs n ≡ Some pair → IsMinded a head lists n clause pair
  pub within : head ≤ length a.lits
  pub last_level : (d : ℕ) → head < d → slice_get a.reasons d ≢ Some Decision

-- the same of the program's watches
abbrev pub Watching : List (List Literal) → Assignment → Watches → Type 0
Watching known a w = IsWatched known a w.head w.pairs.items w.lists.items

-- one clause more, whose literals have entries in their lists
pub record IsAttached (pairs : List Pair) (lists : List (List Watch)) (pairs' : List Pair) (lists' : List (List Watch)) (first second : Literal) : Type 0 where
  pub pushed : pairs' ≡ pairs ++ (record { first = first; second = second }) ∷ []
  pub between : List (List Watch)
  pub one : Watch
  pub two : Watch
  pub one_added : IsAdded lists between (code_of first) one
  pub two_added : IsAdded between lists' (code_of second) two
  pub one_is : (one.clause ≡ length pairs) × (one.blocker ≡ second)
  pub two_is : (two.clause ≡ length pairs) × (two.blocker ≡ first)
  pub first_proper : IsProper first
  pub second_proper : IsProper second

-- a clause watches `next` in place of the literal f, in whose list its entry was
pub record IsMoved (pairs : List Pair) (lists : List (List Watch)) (pairs' : List Pair) (lists' : List (List Watch)) (f : Literal) (i n : ℕ) (other next : Literal) : Type 0 where
  pub changed : pairs' ≡ slice_set pairs n (record { first = other; second = next })
  pub between : List (List Watch)
  pub entry : Watch
  pub taken : IsTakenOut lists between (code_of f) i
  pub added : IsAdded between lists' (code_of next) entry
  pub entry_is : (entry.clause ≡ n) × (entry.blocker ≡ other)

-- a pair has a literal
abbrev pub HasLiteral : Pair → Literal → Type 0
HasLiteral pair l = (pair.first ≡ l) ⊎ (pair.second ≡ l)

-- the other literal of a pair
abbrev pub IsOther : Pair → Literal → Literal → Type 0
IsOther pair l other = ((pair.first ≡ l) × (pair.second ≡ other)) ⊎ ((pair.second ≡ l) × (pair.first ≡ other))

-- an entry of a literal's list names a clause that watches this literal and another one
pub record IsAtEntry (pairs : List Pair) (lists : List (List Watch)) (f : Literal) (i n : ℕ) (other : Literal) : Type 0 where
  pub watch : Watch
  pub at : slice_get (list_of lists f) i ≡ Some watch
  pub names : watch.clause ≡ n
  pub pair : Pair
  pub paired : slice_get pairs n ≡ Some pair
  pub which : IsOther pair f other

-- where a trail may be cut: at its end or at a decision
abbrev pub IsCut : Assignment → ℕ → Type 0
IsCut a n = (n ≡ length a.lits) ⊎ (slice_get a.reasons n ≡ Some Decision)
