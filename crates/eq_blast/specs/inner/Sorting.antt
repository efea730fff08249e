-- Mirrors src/placing.rt and src/sorting.rt; nothing here has to be believed.
-- A list of nodes in any order, the plan, is made again with each node behind those that it reads within a cycle. A place
-- for each node of the plan has the number of the new node that stands for it, none as long as it isn't made.
use Rattle.std.specs.Prelude.{◌≡◌, ℕ, ◌+◌, ◌<◌, ◌≤◌, List, Bool, true, false, ◌⊎◌, Option, Some, None, slice_index_or, length, sum_by}
use Rattle.eq_bits.specs.declared.node.Node.{Node}
use Rattle.eq_bits.specs.declared.node.Node.TheVariants.{Const, Input, Not, And, Xor, Mux, Buf, Reg}
use Rattle.eq_bits.specs.Node.{IsNode, node_at}
use Rattle.eq_bits.specs.Shared.{is_gate, normal_form, with_next}

-- ---- places

abbrev pub place_of : List (Option ℕ) → ℕ → Option ℕ
place_of places m = slice_index_or places m None

abbrev pub number_or_zero : Option ℕ → ℕ
number_or_zero None = 0
number_or_zero (Some k) = k

abbrev pub is_there : Option ℕ → Bool
is_there None = false
is_there (Some k) = true

-- the new node for node m of the plan, and whether it is made
abbrev pub new_of : List (Option ℕ) → ℕ → ℕ
new_of places m = number_or_zero (place_of places m)

abbrev pub is_made : List (Option ℕ) → ℕ → Bool
is_made places m = is_there (place_of places m)

abbrev pub one_if_open : Option ℕ → ℕ
one_if_open None = 1
one_if_open (Some k) = 0

-- how many nodes of the plan aren't made
abbrev pub open_count : List (Option ℕ) → ℕ
open_count places = sum_by one_if_open places

-- ---- nodes with their operands

-- the node over new operands
abbrev pub renamed : (ℕ → ℕ) → Node → Node
renamed f (Const b) = Const b
renamed f (Input i) = Input i
renamed f (Not a) = Not (f a)
renamed f (And a b) = And (f a) (f b)
renamed f (Xor a b) = Xor (f a) (f b)
renamed f (Mux s a b) = Mux (f s) (f a) (f b)
renamed f (Buf a) = Buf (f a)
renamed f (Reg next init) = Reg (f next) init

abbrev pub unless : Bool → ℕ → Option ℕ
unless true a = None
unless false a = Some a

abbrev pub first_of_two : Option ℕ → Option ℕ → Option ℕ
first_of_two None q = q
first_of_two (Some a) q = Some a

-- the first operand within a cycle that isn't in the set
abbrev pub waits_for : (ℕ → Bool) → Node → Option ℕ
waits_for d (Const b) = None
waits_for d (Input i) = None
waits_for d (Not a) = unless (d a) a
waits_for d (And a b) = first_of_two (unless (d a) a) (unless (d b) b)
waits_for d (Xor a b) = first_of_two (unless (d a) a) (unless (d b) b)
waits_for d (Mux s a b) = first_of_two (unless (d s) s) (first_of_two (unless (d a) a) (unless (d b) b))
waits_for d (Buf a) = unless (d a) a
waits_for d (Reg next init) = None

-- ---- plans

-- operands are nodes of the plan
abbrev pub IsWithin : List Node → Type 0
IsWithin plan = (m : ℕ) → m < length plan → IsNode (length plan) (length plan) (node_at plan m)

-- of the first n nodes, the set has each one that waits for nothing
abbrev pub IsClosedTo : ℕ → List Node → (ℕ → Bool) → Type 0
IsClosedTo n plan d = (m : ℕ) → m < n → waits_for d (node_at plan m) ≡ None → d m ≡ true

-- so the nodes can be made one behind the other until all are made
abbrev pub IsGrounded : List Node → Type 0
IsGrounded plan = (d : ℕ → Bool) → IsClosedTo (length plan) plan d → (m : ℕ) → m < length plan → d m ≡ true

-- ---- what is made

-- the new node is this one, a register with any next node
abbrev pub IsCopy : (ℕ → ℕ) → Node → Node → Type 0
IsCopy f node new = (next : ℕ) × (new ≡ with_next (normal_form (renamed f node)) next)

-- the list has the node at a number, beside old nodes that stay. What is no gate stands at the end
pub record IsAdded (old new : List Node) (node : Node) (number : ℕ) : Type 0 where
  pub there : number < length new
  pub is : node_at new number ≡ node
  pub old_stays : (k : ℕ) → k < length old → node_at new k ≡ node_at old k
  pub no_less : length old ≤ length new
  pub one_more : length new ≤ length old + 1
  pub last : (k : ℕ) → length old ≤ k → k < length new → node_at new k ≡ node
  pub alone : is_gate node ≡ false → number ≡ length old

-- a copy of the node is added
abbrev pub IsCopyAdded : (ℕ → ℕ) → Node → List Node → List Node → ℕ → Type 0
IsCopyAdded f node old new number = (copy : Node) × IsCopy f node copy × IsAdded old new copy number

pub record IsPlacing (plan : List Node) (places : List (Option ℕ)) (nodes : List Node) (left : ℕ) : Type 0 where
  pub count : length places ≡ length plan
  pub still : left ≡ open_count places
  pub room : length nodes + left ≤ length plan
  pub there : (m : ℕ) → is_made places m ≡ true → new_of places m < length nodes
  pub ready : (m : ℕ) → is_made places m ≡ true → waits_for (is_made places) (node_at plan m) ≡ None
  pub copies : (m : ℕ) → is_made places m ≡ true →
      IsCopy (new_of places) (node_at plan m) (node_at nodes (new_of places m))
  pub apart : (a b : ℕ) → is_made places a ≡ true → is_made places b ≡ true → new_of places a ≡ new_of places b →
      is_gate (node_at plan a) ≡ false → a ≡ b
  pub only : (k : ℕ) → k < length nodes → is_gate (node_at nodes k) ≡ false →
      (m : ℕ) × (is_made places m ≡ true) × (new_of places m ≡ k)

-- node m was made, or nothing changed, and it is made or waits
pub record IsTried (plan : List Node) (old new : List (Option ℕ)) (before after m : ℕ) : Type 0 where
  pub fewer : after ≤ before
  pub moved : (after < before) ⊎
      ((new ≡ old) × (waits_for (is_made old) (node_at plan m) ≡ None → is_made old m ≡ true))

-- some node was made, or nothing changed, and each of the first n is made or waits
pub record IsPassed (plan : List Node) (old new : List (Option ℕ)) (before after n : ℕ) : Type 0 where
  pub fewer : after ≤ before
  pub moved : (after < before) ⊎ ((new ≡ old) × IsClosedTo n plan (is_made old))

-- the new node of m of the plan is its copy, a register's next node too
abbrev pub IsLinked : List Node → List (Option ℕ) → List Node → ℕ → Type 0
IsLinked plan places nodes m = node_at nodes (new_of places m) ≡ normal_form (renamed (new_of places) (node_at plan m))

-- so it is for the first n nodes
abbrev pub AreLinked : List Node → List (Option ℕ) → List Node → ℕ → Type 0
AreLinked plan places nodes n = (m : ℕ) → m < n → IsLinked plan places nodes m

-- all nodes of the plan are made, each behind those that it reads
pub record IsSorted (plan : List Node) (places : List (Option ℕ)) (nodes : List Node) : Type 0 where
  pub placing : IsPlacing plan places nodes 0
  pub all : (m : ℕ) → m < length plan → is_made places m ≡ true
  pub linked : AreLinked plan places nodes (length plan)
