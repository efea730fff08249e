-- Which nodes of two graphs are the paired bits' own. The graphs' nodes stand in one row, gold's first.
use Rattle.std.specs.Prelude.{◌≡◌, ℕ, ◌+◌, ◌<◌, ◌⊎◌, List, Option, Some, None, length, slice_index_or}
use Rattle.eq_bits.specs.declared.node.Graph.{Graph}
use Rattle.eq_blast.specs.Blasted.{own_of}
use Rattle.eq_part.specs.declared.plan.Plan.{Plan}

-- no two bits have one own node, and each has one
pub record HaveOwnNodes (g : Graph) : Type 0 where
  pub there : (b : ℕ) → b < length g.bits → own_of g.bits b < length g.nodes
  pub once : (a b : ℕ) → a < length g.bits → b < length g.bits → own_of g.bits a ≡ own_of g.bits b → a ≡ b

-- the own nodes of a pair's bits
abbrev pub own_in_gold : Graph → Plan → ℕ → ℕ
own_in_gold gold plan i = own_of gold.bits (slice_index_or plan.gold.bits i 0)

abbrev pub own_in_gate : Graph → Plan → ℕ → ℕ
own_in_gate gate plan i = own_of gate.bits (slice_index_or plan.gate.bits i 0)

-- the pair at a place of a table, none beyond it
abbrev pub pair_of : List (Option ℕ) → ℕ → Option ℕ
pair_of paired m = slice_index_or paired m None

-- the table says of each node of the row of which pair it is the own node, if of any
pub record ArePaired (gold gate : Graph) (plan : Plan) (paired : List (Option ℕ)) : Type 0 where
  pub count : length paired ≡ length gold.nodes + length gate.nodes
  pub gold_own : (i : ℕ) → i < length plan.pairs → pair_of paired (own_in_gold gold plan i) ≡ Some i
  pub gate_own : (i : ℕ) → i < length plan.pairs →
      pair_of paired (length gold.nodes + own_in_gate gate plan i) ≡ Some i
  pub only : (m i : ℕ) → pair_of paired m ≡ Some i → (i < length plan.pairs) ×
      ((m ≡ own_in_gold gold plan i) ⊎ (m ≡ length gold.nodes + own_in_gate gate plan i))
