-- Mirrors src/numbers.rt and src/cone.rt; nothing here has to be believed.
-- Which nodes a cone has: all that its roots lead to by reads, but nothing behind a cut.
use Rattle.std.specs.Prelude.{◌≡◌, ◌≢◌, ℕ, ◌<◌, ◌≤◌, List, [], ◌∷◌, ◌++◌, Option, Some, None, Contains, AllPairs, length, slice_index_or}
use Rattle.eq_model.specs.System.{reads_ever}
use Rattle.eq_bits.specs.declared.node.Node.{Node}
use Rattle.eq_bits.specs.Node.{driver_of, node_at}

abbrev pub number_at : List ℕ → ℕ → ℕ
number_at numbers k = slice_index_or numbers k 0

-- no number stands twice
abbrev pub AreApart : List ℕ → Type 0
AreApart numbers = AllPairs (λ x y. x ≢ y) numbers

abbrev pub AreAscending : List ℕ → Type 0
AreAscending numbers = AllPairs (λ x y. x < y) numbers

-- the number stands at this place
abbrev pub IsPlace : List ℕ → ℕ → ℕ → Type 0
IsPlace numbers m k = (k < length numbers) × (number_at numbers k ≡ m)

-- these numbers came to a list that had some of them
pub record Reached (old new : List ℕ) (numbers : List ℕ) : Type 0 where
  pub more : List ℕ
  pub is : new ≡ old ++ more
  pub has : (r : ℕ) → Contains numbers r → Contains new r
  pub only : (r : ℕ) → Contains more r → Contains numbers r

abbrev pub reads_unless : Option ℕ → Node → List ℕ
reads_unless None node = reads_ever (driver_of node)
reads_unless (Some pair) node = []

-- what node m reads, nothing where it is cut
abbrev pub reads_of : List Node → (ℕ → Option ℕ) → ℕ → List ℕ
reads_of nodes cut m = reads_unless (cut m) (node_at nodes m)

-- node a is b, or leads to b by reads of nodes that aren't cut
abbrev pub Leads : List Node → (ℕ → Option ℕ) → ℕ → List ℕ → ℕ → Type 0
Leads nodes cut a [] b = a ≡ b
Leads nodes cut a (c ∷ cs) b = Contains (reads_of nodes cut a) c × Leads nodes cut c cs b

-- a root leads to node m
abbrev pub IsLed : List Node → (ℕ → Option ℕ) → List ℕ → ℕ → Type 0
IsLed nodes cut roots m = (r : ℕ) × (cs : List ℕ) × Contains roots r × Leads nodes cut r cs m

-- the numbers are nodes
abbrev pub AreWithin : List Node → List ℕ → Type 0
AreWithin nodes numbers = (m : ℕ) → Contains numbers m → m < length nodes

-- of the cone's nodes the first n are read
pub record IsWalk (nodes : List Node) (cut : ℕ → Option ℕ) (roots cone : List ℕ) (n : ℕ) : Type 0 where
  pub count : n ≤ length cone
  pub within : AreWithin nodes cone
  pub roots_there : (r : ℕ) → Contains roots r → Contains cone r
  pub closed : (k r : ℕ) → k < n → k < length cone → Contains (reads_of nodes cut (number_at cone k)) r →
      Contains cone r
  pub led : (m : ℕ) → Contains cone m → IsLed nodes cut roots m

-- the cone of these roots
pub record IsCone (nodes : List Node) (cut : ℕ → Option ℕ) (roots cone : List ℕ) : Type 0 where
  pub within : AreWithin nodes cone
  pub roots_there : (r : ℕ) → Contains roots r → Contains cone r
  pub closed : (m r : ℕ) → Contains cone m → Contains (reads_of nodes cut m) r → Contains cone r
  pub led : (m : ℕ) → Contains cone m → IsLed nodes cut roots m

abbrev pub pairs_of : Option ℕ → List ℕ
pairs_of None = []
pairs_of (Some i) = i ∷ []

-- the pairs at which the first n nodes of the cone are cut, each once
pub record AreInputs (cut : ℕ → Option ℕ) (cone inputs : List ℕ) (n : ℕ) : Type 0 where
  pub has : (k i : ℕ) → k < n → k < length cone → cut (number_at cone k) ≡ Some i → Contains inputs i
  pub only : (i : ℕ) → Contains inputs i → (m : ℕ) × Contains cone m × (cut m ≡ Some i)
