-- Mirrors src/sides.rt; nothing here has to be believed.
-- The nodes of two graphs in one row, gold's first, and where a cut stops.
use Rattle.std.specs.Prelude.{◌≡◌, ℕ, ◌+◌, ◌<◌, ◌≤◌, ◌==◌, ◌&&◌, nat_le, List, ◌++◌, Bool, true, false, Option, Some, None, map, length, slice_index_or}
use Rattle.eq_bits.specs.declared.node.Node.{Node}
use Rattle.eq_bits.specs.declared.node.Node.TheVariants.{Const, Input, Not, And, Xor, Mux, Buf, Reg}
use Rattle.eq_bits.specs.Node.{AreNodes}
use Rattle.eq_match.specs.Pairs.{pair_at}
use Rattle.eq_cone.specs.Paired.{pair_of}
use Rattle.eq_cone.specs.declared.sides.Sides.{Sides}

-- the node with its operands d further on
abbrev pub shifted : ℕ → Node → Node
shifted d (Const b) = Const b
shifted d (Input i) = Input i
shifted d (Not a) = Not (d + a)
shifted d (And a b) = And (d + a) (d + b)
shifted d (Xor a b) = Xor (d + a) (d + b)
shifted d (Mux s a b) = Mux (d + s) (d + a) (d + b)
shifted d (Buf a) = Buf (d + a)
shifted d (Reg next init) = Reg (d + next) init

abbrev pub joined : List Node → List Node → List Node
joined gold gate = gold ++ map (shifted (length gold)) gate

abbrev pub nodes_of : Sides → List Node
nodes_of s = joined s.gold.now s.gate.now

abbrev pub is_owner : Option ℕ → ℕ → Bool
is_owner None q = false
is_owner (Some r) q = r == q

-- partition q holds pair i
abbrev pub is_inside : List (Option ℕ) → ℕ → ℕ → Bool
is_inside owners q i = is_owner (slice_index_or owners i None) q

abbrev pub unless : Bool → ℕ → Option ℕ
unless true i = None
unless false i = Some i

-- the pair, where it stands outside partition q
abbrev pub outside : List (Option ℕ) → ℕ → Option ℕ → Option ℕ
outside owners q None = None
outside owners q (Some i) = unless (is_inside owners q i) i

-- the pair outside whose bit's own node is node m. There the cone stops
abbrev pub cut_of : Sides → ℕ → Option ℕ
cut_of s m = outside s.owners.now s.part (pair_of s.paired.now m)

-- a gate bit of an inverted pair has the complement of the pair's value
abbrev pub has_complement : Sides → ℕ → ℕ → Bool
has_complement s m i = nat_le (length s.gold.now) m && (pair_at s.pairs.now i).inverted

pub record AreSides (s : Sides) : Type 0 where
  pub gold_nodes : AreNodes s.gold.now
  pub gate_nodes : AreNodes s.gate.now
  pub few : length s.gold.now + length s.gate.now ≤ 4000000
  pub count : length s.paired.now ≡ length s.gold.now + length s.gate.now
  pub owned : (m i : ℕ) → pair_of s.paired.now m ≡ Some i → i < length s.owners.now
  pub few_pairs : length s.pairs.now ≤ 4000000
  pub owners : length s.owners.now ≡ length s.pairs.now
