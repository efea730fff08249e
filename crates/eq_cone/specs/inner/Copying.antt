-- Mirrors src/copying.rt; nothing here has to be believed.
-- The cone's nodes made again in a part, whose first nodes are its inputs. `place` has for each node of the cone that is
-- made the node of the part that stands for it.
use Rattle.std.specs.Prelude.{◌≡◌, ℕ, ◌+◌, ◌<◌, ◌≤◌, nat_eq, List, Bool, true, false, Option, Some, None, Contains, length}
use Rattle.std.specs.declared.hash.FoldHasher.{FoldHasher}
use Rattle.std.specs.declared.hash.BuildHasherDefault.{BuildHasherDefault}
use Rattle.std.specs.HashMap.{HashMap, get}
use Rattle.eq_model.specs.System.{IsInput, reads_now}
use Rattle.eq_bits.specs.declared.node.Node.{Node}
use Rattle.eq_bits.specs.declared.node.Node.TheVariants.{Const, Input, Not, And, Xor, Mux, Buf, Reg}
use Rattle.eq_bits.specs.Node.{driver_of, is_register, node_at}
use Rattle.eq_bits.specs.Shared.{normal_form, with_next}
use Rattle.eq_cone.specs.inner.Cones.{number_at}

abbrev pub Places : Type 0
Places = HashMap ℕ ℕ (BuildHasherDefault FoldHasher)

abbrev pub place_of : Places → ℕ → Option ℕ
place_of places m = get nat_eq places m

abbrev pub number_or_zero : Option ℕ → ℕ
number_or_zero None = 0
number_or_zero (Some k) = k

-- the node that stands for node m
abbrev pub new_of : (ℕ → Option ℕ) → ℕ → ℕ
new_of place m = number_or_zero (place m)

abbrev pub IsMade : (ℕ → Option ℕ) → ℕ → Type 0
IsMade place m = (k : ℕ) × (place m ≡ Some k)

-- ---- nodes with their operands

-- the node over new operands
abbrev pub renamed : (ℕ → ℕ) → Node → Node
renamed f (Const b) = Const b
renamed f (Input i) = Input i
renamed f (Not a) = Not (f a)
renamed f (And a b) = And (f a) (f b)
renamed f (Xor a b) = Xor (f a) (f b)
renamed f (Mux s a b) = Mux (f s) (f a) (f b)
renamed f (Buf a) = Buf (f a)
renamed f (Reg next init) = Reg (f next) init

-- a copy of the node over new operands, of a register with any next node
abbrev pub IsCopyOf : (ℕ → ℕ) → Node → Node → Type 0
IsCopyOf f node new = (next : ℕ) × (new ≡ with_next (normal_form (renamed f node)) next)

-- ---- one node more

-- the list has a node at a number, which came to the end if any did
pub record IsGrown (old new : List Node) (number : ℕ) : Type 0 where
  pub there : number < length new
  pub stays : (k : ℕ) → k < length old → node_at new k ≡ node_at old k
  pub no_less : length old ≤ length new
  pub one_more : length new ≤ length old + 1
  pub last : (k : ℕ) → length old ≤ k → k < length new → k ≡ number

-- a copy of the node came, a register at the end
pub record IsCopyMade (f : ℕ → ℕ) (node : Node) (old new : List Node) (number : ℕ) : Type 0 where
  pub grown : IsGrown old new number
  pub copy : IsCopyOf f node (node_at new number)
  pub apart : is_register node ≡ true → length old ≤ number

-- node k is the input j or negates it
abbrev pub IsSignedInput : List Node → Bool → ℕ → ℕ → Type 0
IsSignedInput nodes false j k = k ≡ j
IsSignedInput nodes true j k = node_at nodes k ≡ Not j

-- node k stands for a bit of this pair
abbrev pub IsInputFor : List ℕ → List Node → Bool → ℕ → ℕ → Type 0
IsInputFor inputs nodes negated i k = (j : ℕ) × (j < length inputs) × (number_at inputs j ≡ i) ×
    IsSignedInput nodes negated j k

pub record IsStopMade (inputs : List ℕ) (negated : Bool) (i : ℕ) (old new : List Node) (number : ℕ) : Type 0 where
  pub grown : IsGrown old new number
  pub stop : IsInputFor inputs new negated i number
  pub no_input : length old ≤ number → ¬ IsInput (driver_of (node_at new number))

-- a node for node m: the input of the pair where it is cut, else its copy
pub record IsMadeOf (nodes : List Node) (cut : ℕ → Option ℕ) (negated : ℕ → ℕ → Bool) (inputs : List ℕ)
    (place : ℕ → Option ℕ) (m : ℕ) (old new : List Node) (number : ℕ) : Type 0 where
  pub grown : IsGrown old new number
  pub stop : (i : ℕ) → cut m ≡ Some i → IsInputFor inputs new (negated m i) i number
  pub copy : cut m ≡ None → IsCopyOf (new_of place) (node_at nodes m) (node_at new number)
  pub apart : cut m ≡ None → is_register (node_at nodes m) ≡ true → length old ≤ number
  pub no_input : length old ≤ number → ¬ IsInput (driver_of (node_at new number))

-- ---- what is made

-- the first n nodes are the inputs
pub record AreInputNodes (nodes : List Node) (n : ℕ) : Type 0 where
  pub there : n ≤ length nodes
  pub are : (j : ℕ) → j < n → node_at nodes j ≡ Input j

pub record IsCopied (nodes : List Node) (cut : ℕ → Option ℕ) (negated : ℕ → ℕ → Bool) (inputs : List ℕ)
    (place : ℕ → Option ℕ) (new : List Node) : Type 0 where
  pub input_nodes : AreInputNodes new (length inputs)
  pub no_others : (k : ℕ) → length inputs ≤ k → k < length new → ¬ IsInput (driver_of (node_at new k))
  pub there : (m k : ℕ) → place m ≡ Some k → k < length new
  pub stops : (m k i : ℕ) → place m ≡ Some k → cut m ≡ Some i → IsInputFor inputs new (negated m i) i k
  pub copies : (m k : ℕ) → place m ≡ Some k → cut m ≡ None → IsCopyOf (new_of place) (node_at nodes m) (node_at new k)
  pub ready : (m r : ℕ) → IsMade place m → cut m ≡ None → Contains (reads_now (driver_of (node_at nodes m))) r →
      IsMade place r
  pub apart : (a b k : ℕ) → place a ≡ Some k → place b ≡ Some k → cut a ≡ None → cut b ≡ None →
      is_register (node_at nodes a) ≡ true → a ≡ b
  pub only : (k : ℕ) → length inputs ≤ k → k < length new → (m : ℕ) × (place m ≡ Some k)

-- of the cone just the first n nodes are made
pub record AreFront (cone : List ℕ) (place : ℕ → Option ℕ) (n : ℕ) : Type 0 where
  pub made : (j : ℕ) → j < n → IsMade place (number_at cone j)
  pub only : (m : ℕ) → IsMade place m → (j : ℕ) × (j < n) × (number_at cone j ≡ m)

-- node m, where it isn't cut, has its copy, a register's next node too
abbrev pub HasNext : List Node → (ℕ → Option ℕ) → (ℕ → Option ℕ) → List Node → ℕ → Type 0
HasNext nodes cut place new m = cut m ≡ None →
    node_at new (new_of place m) ≡ normal_form (renamed (new_of place) (node_at nodes m))

-- so it is for the first n nodes of the cone
abbrev pub HaveNexts : List Node → (ℕ → Option ℕ) → (ℕ → Option ℕ) → List Node → List ℕ → ℕ → Type 0
HaveNexts nodes cut place new cone n = (j : ℕ) → j < n → HasNext nodes cut place new (number_at cone j)
