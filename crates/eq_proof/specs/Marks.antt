-- A set of true literals as marks for each variable and a trail.
use Rattle.std.specs.Prelude.{◌≡◌, ◌≢◌, ◌<◌, Bool, true, false, List, length, All, Contains, count_by, slice_index_or}
use Rattle.std.specs.List.{AllPairs}
use Rattle.eq_proof.specs.Literal.{Literal}
use Rattle.eq_proof.specs.Sets.{IsFalse, HasNoValue}
use Rattle.eq_proof.specs.declared.trail.Mark.{Mark}
use Rattle.eq_proof.specs.declared.trail.Mark.TheVariants.{Open, Positive, Negative}
use Rattle.eq_proof.specs.declared.trail.Value.{Value}
use Rattle.eq_proof.specs.declared.trail.Value.TheVariants.{Unassigned, True, False}

-- how the variable of a true literal with this sign is marked
abbrev pub mark_of : Bool → Mark
mark_of true = Positive
mark_of false = Negative

-- whether a variable has a value
abbrev pub is_assigned : Mark → Bool
is_assigned Open = false
is_assigned Positive = true
is_assigned Negative = true

-- the value of a literal with this sign, by its variable's mark
abbrev pub value_of : Mark → Bool → Value
value_of Open positive = Unassigned
value_of Positive true = True
value_of Positive false = False
value_of Negative true = False
value_of Negative false = True

-- what a literal's value says of the set of true literals
abbrev pub HasValue : List Literal → Literal → Value → Type 0
HasValue set l Unassigned = HasNoValue set l
HasValue set l True = Contains set l × (¬ IsFalse set l)
HasValue set l False = IsFalse set l × (¬ Contains set l)

-- the trail has at most one literal of a variable, and the marks say which
pub record IsTrail (marks : List Mark) (trail : List Literal) : Type 0 where
  pub apart : AllPairs (λ a b. a.var ≢ b.var) trail
  pub within : All (λ l. l.var < length marks) trail
  pub marked : (l : Literal) → Contains trail l → slice_index_or marks l.var Open ≡ mark_of l.positive
  pub listed : (l : Literal) → l.var < length marks → slice_index_or marks l.var Open ≡ mark_of l.positive → Contains trail l
  pub counted : count_by is_assigned marks ≡ length trail
