-- Parts: small systems of their own, each with numbered inputs and with pairs of nodes that are to be equal. Both sides of
-- a comparison stand in one part and share its inputs (a miter: D. Brand, "Verification of large synthesized designs", 1993).
use Rattle.std.specs.Prelude.{◌≡◌, ◌≢◌, ℕ, suc, ◌<◌, ◌-◌, Bool, true, List, [], ◌∷◌, ◌⊎◌}
use Rattle.eq_model.specs.System.{Values, System, IsSystem, IsInput, IsInitial, Reads, ReadsEver, Solves, Agree, is_register, nothing}

-- a system of nodes. An input node stands for the input of its number, and each output has a gold and a gate node
pub record Part : Type 0 where
  pub system : System
  pub open system use *
  pub inputs : ℕ
  pub number : ℕ → ℕ
  pub outputs : ℕ
  pub gold : ℕ → ℕ
  pub gate : ℕ → ℕ

pub record IsPart (t : Part) : Type 0 where
  pub drivers : IsSystem t.system
  -- what a node reads within a cycle stands before it
  pub ordered : (a b : ℕ) → a < t.bits → Reads t.system a b → b < a
  pub numbers : (b : ℕ) → b < t.bits → IsInput (t.driver b) → t.number b < t.inputs
  -- an input has one node at most, so that all input nodes can be chosen apart
  pub one_node : (a b : ℕ) → a < t.bits → b < t.bits → IsInput (t.driver a) → IsInput (t.driver b) →
      t.number a ≡ t.number b → a ≡ b
  pub gold_nodes : (o : ℕ) → o < t.outputs → t.gold o < t.bits
  pub gate_nodes : (o : ℕ) → o < t.outputs → t.gate o < t.bits

-- node a is b, or leads to b by the nodes that a node reads, one after another
abbrev pub LeadsTo : Part → ℕ → List ℕ → ℕ → Type 0
LeadsTo t a [] b = a ≡ b
LeadsTo t a (c ∷ cs) b = ReadsEver t.system a c × LeadsTo t c cs b

-- nothing in the part is idle: an output leads to each node, and each input has a node
pub record IsTrim (t : Part) : Type 0 where
  pub reached : (b : ℕ) → b < t.bits → (o : ℕ) × (cs : List ℕ) × (o < t.outputs) ×
      (LeadsTo t (t.gold o) cs b ⊎ LeadsTo t (t.gate o) cs b)
  pub named : (k : ℕ) → k < t.inputs → (b : ℕ) × (b < t.bits) × IsInput (t.driver b) ×
      (t.number b ≡ k)

-- values of the nodes over n cycles, from any values of the registers, for these inputs by cycle and number
pub record PartRun (t : Part) (given : ℕ → ℕ → Bool) (n : ℕ) (x : ℕ → Values) : Type 0 where
  pub inputs : (c b : ℕ) → c < n → b < t.bits → IsInput (t.driver b) → x c b ≡ given c (t.number b)
  pub solves : Solves t.system nothing n x

-- in a cycle some output's two nodes differ
abbrev pub PartDiffer : Part → Values → Type 0
PartDiffer t x = (o : ℕ) × (o < t.outputs) × (x (t.gold o) ≢ x (t.gate o))

-- in a cycle each output's two nodes have the same value
abbrev pub PartSame : Part → Values → Type 0
PartSame t x = (o : ℕ) → o < t.outputs → x (t.gold o) ≡ x (t.gate o)

-- a run whose registers begin at these values
pub record PartRunFrom (t : Part) (given : ℕ → ℕ → Bool) (state : Values) (n : ℕ) (x : ℕ →
    Values) : Type 0 where
  pub run : PartRun t given n x
  pub begins : 0 < n → (b : ℕ) → b < t.bits → is_register (t.driver b) ≡ true → x 0 b ≡ state b

-- there is a run for these inputs and first values of the registers, and any two have the same values
pub record HasOnePartRun (t : Part) (given : ℕ → ℕ → Bool) (state : Values) (n : ℕ) : Type 0 where
  pub some : (x : ℕ → Values) × PartRunFrom t given state n x
  pub only : (x y : ℕ → Values) → PartRunFrom t given state n x → PartRunFrom t given state n y →
      Agree t.system n x y

-- some run of k cycles, k being 1 or more, from the initial values differs in its last cycle
pub record PartBase (t : Part) (k : ℕ) : Type 0 where
  pub some : 0 < k
  pub given : ℕ → ℕ → Bool
  pub x : ℕ → Values
  pub run : PartRun t given k x
  pub initial : IsInitial t.system nothing (x 0)
  pub differ : PartDiffer t (x (k - 1))

-- some run of k + 1 cycles, from any values of the registers, is equal in the first k cycles and differs in the last
pub record PartStep (t : Part) (k : ℕ) : Type 0 where
  pub given : ℕ → ℕ → Bool
  pub x : ℕ → Values
  pub run : PartRun t given (suc k) x
  pub same : (c : ℕ) → c < k → PartSame t (x c)
  pub differ : PartDiffer t (x k)
