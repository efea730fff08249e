-- Cited by proofs alone; nothing here has to be believed.
-- A trail kept with a slot for each variable, which says where its literal stands.
use Rattle.std.specs.Prelude.{◌≡◌, ℕ, ◌<◌, ◌^◌, Bool, true, false, List, length, All, Contains, count_by, slice_get, Some, slice_index_or}
use Rattle.eq_proof.specs.Literal.{Literal}
use Rattle.eq_proof.specs.Sets.{IsFalse, HasNoValue}
use Rattle.eq_cdcl.specs.declared.trail.Reason.{Reason}
use Rattle.eq_cdcl.specs.declared.trail.Slot.{Slot}
use Rattle.eq_cdcl.specs.declared.trail.Slot.TheVariants.{Open, Taken}
use Rattle.eq_cdcl.specs.declared.trail.Value.{Value}
use Rattle.eq_cdcl.specs.declared.trail.Value.TheVariants.{Unassigned, True, False}

-- the value of a literal with this sign, by its variable's slot
abbrev pub value_of : Slot → Bool → Value
value_of Open positive = Unassigned
value_of (Taken place true) true = True
value_of (Taken place true) false = False
value_of (Taken place false) true = False
value_of (Taken place false) false = True

-- whether the positive literal is true
abbrev pub holds_of : Slot → Bool
holds_of Open = false
holds_of (Taken place sign) = sign

-- whether a variable has a value
abbrev pub is_taken : Slot → Bool
is_taken Open = false
is_taken (Taken place sign) = true

-- what a literal's value says of the set of true literals
abbrev pub HasValue : List Literal → Literal → Value → Type 0
HasValue set l Unassigned = HasNoValue set l
HasValue set l True = Contains set l × (¬ IsFalse set l)
HasValue set l False = IsFalse set l × (¬ Contains set l)

-- a literal of a variable from 1 to 2^31 - 1
abbrev pub IsProper : Literal → Type 0
IsProper l = (0 < l.var) × (l.var < 2 ^ 31)

-- a literal of a variable is true
abbrev pub HasVariable : List Literal → ℕ → Type 0
HasVariable lits var = (l : Literal) × Contains lits l × (l.var ≡ var)

-- the literal at a place is of a variable
abbrev pub IsAtPlace : List Literal → ℕ → ℕ → Type 0
IsAtPlace lits var place = (l : Literal) × (slice_get lits place ≡ Some l) × (l.var ≡ var)

-- the slots say where each literal stands, and only where one does
pub record IsTrail (slots : List Slot) (lits : List Literal) (reasons : List Reason) : Type 0 where
  pub same : length reasons ≡ length lits
  pub taken : (place : ℕ) (l : Literal) → slice_get lits place ≡ Some l → slice_index_or slots l.var Open ≡ Taken place l.positive
  pub listed : (var place : ℕ) (sign : Bool) → slice_index_or slots var Open ≡ Taken place sign → slice_get lits place ≡ Some (record { var = var; positive = sign })
  pub within : All (λ l. l.var < length slots) lits
  pub counted : count_by is_taken slots ≡ length lits
