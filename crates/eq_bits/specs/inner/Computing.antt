-- Cited by proofs alone; nothing here has to be believed.
use Rattle.std.specs.Prelude.{◌≡◌, ℕ, ◌<◌, List, Bool}
use Rattle.eq_model.specs.System.{Values, compute}
use Rattle.eq_model.specs.Frames.{values}
use Rattle.eq_bits.specs.declared.node.Node.{Node}
use Rattle.eq_bits.specs.Node.{driver_of, node_at}

-- each of the first n nodes has what its driver computes, where u has what nodes are given
abbrev pub HasComputed : List Node → Values → ℕ → List Bool → Type 0
HasComputed nodes u n xs = (m : ℕ) → m < n → values xs m ≡ compute (driver_of (node_at nodes m)) (values xs) (u m)
