-- Cited by private contracts alone; nothing here has to be believed.
-- Gates that are added to a graph, and what one of its nodes gives.
use Rattle.std.specs.Prelude.{◌≡◌, ℕ, ◌+◌, ◌<◌, ◌≤◌, List, Bool, true, false, not, ◌&&◌, cond, length}
use Rattle.eq_model.specs.System.{Values}
use Rattle.eq_bits.specs.declared.node.Node.{Node}
use Rattle.eq_bits.specs.declared.node.Node.TheVariants.{Const, Input, Not, And, Xor, Mux, Buf, Reg}
use Rattle.eq_bits.specs.Node.{node_at}
use Rattle.eq_bits.specs.Shared.{is_gate}
use Rattle.eq_net.specs.Numbers.{differ}
use Rattle.eq_blast.specs.inner.Wiring.{Computes, IsClosed}

-- the old nodes stand in front, and behind them at most k gates
pub record Grown (k : ℕ) (old new : List Node) : Type 0 where
  pub size : length old ≤ length new
  pub bound : length new ≤ length old + k
  pub kept : (m : ℕ) → m < length old → node_at new m ≡ node_at old m
  pub gates : (m : ℕ) → length old ≤ m → m < length new → is_gate (node_at new m) ≡ true

-- in all values in which the gates compute, node m has the value that f makes of them, and it is in each closed set that has
-- what g asks for
pub record Gives (nodes : List Node) (m : ℕ) (f g : Values → Bool) : Type 0 where
  pub there : m < length nodes
  pub value : (x : Values) → Computes nodes x → x m ≡ f x
  pub has : (d : Values) → IsClosed nodes d → g d ≡ true → d m ≡ true

-- nodes 0 and 1 are the constants
pub record HasConstants (nodes : List Node) : Type 0 where
  pub room : 2 ≤ length nodes
  pub zero_node : node_at nodes 0 ≡ Const false
  pub one_node : node_at nodes 1 ≡ Const true

-- what a gate computes, and whether its operands are in a set
abbrev pub value_in : Node → Values → Bool
value_in (Const b) x = b
value_in (Input i) x = false
value_in (Not a) x = not (x a)
value_in (And a b) x = x a && x b
value_in (Xor a b) x = differ (x a) (x b)
value_in (Mux s a b) x = cond {A = Bool} (x s) (x a) (x b)
value_in (Buf a) x = x a
value_in (Reg next init) x = false

abbrev pub has_in : Node → Values → Bool
has_in (Const b) d = true
has_in (Input i) d = false
has_in (Not a) d = d a
has_in (And a b) d = d a && d b
has_in (Xor a b) d = d a && d b
has_in (Mux s a b) d = d s && (d a && d b)
has_in (Buf a) d = d a
has_in (Reg next init) d = false
