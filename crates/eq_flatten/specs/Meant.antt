-- The bits that a name or a select means.
use Rattle.std.specs.Prelude.{◌≡◌, ◌≤◌, ◌++◌, ℕ, List, All, Some, None, length, slice_get}
use Rattle.eq_names.specs.declared.BitName.{BitName}
use Rattle.eq_net.specs.declared.types.NetInfo.{NetInfo}
use Rattle.eq_net.specs.Meaning.{if_there}
use Rattle.eq_net.specs.Net.{HasBit, number_of}
use Rattle.eq_verilog.specs.Trees.{ExprTree, const, net, bit, part, empty, joined, repeated, unary, binary, choice}
use Rattle.eq_verilog.specs.Scopes.{Scope, span, width}
use Rattle.eq_verilog.specs.ModuleRefusals.{most_size}
use Rattle.eq_verilog.specs.Sizes.{own}
use Rattle.eq_verilog.specs.Expressions.{wire}

-- the bits that are meant at each position of an expression, the lowest first; all are there
pub record AreMeant (nets : List NetInfo) (s : Scope) (e : ExprTree) (bits : List BitName) : Type 0 where
  pub there : All (HasBit nets) bits
  pub size : length bits ≡ own s e
  pub wires : (j : ℕ) → if_there None (λ (b : BitName). Some (number_of nets b)) (slice_get bits j) ≡ wire s e j

-- these bits were put behind others
pub record AddsMeant (nets : List NetInfo) (s : Scope) (e : ExprTree) (old new : List BitName) : Type 0 where
  pub bits : List BitName
  pub meant : AreMeant nets s e bits
  pub added : new ≡ old ++ bits

-- no net of a target, and no part of one, is too large. A target as a whole may be
abbrev pub AreSlim : Scope → ExprTree → Type 0
AreSlim s (const c) = ⊥
AreSlim s (net n) = width s n ≤ most_size
AreSlim s (bit n i) = Unit {0}
AreSlim s (part n l r) = (span l r ≤ most_size) × (width s n ≤ most_size)
AreSlim s empty = Unit {0}
AreSlim s (joined a b) = AreSlim s a × AreSlim s b
AreSlim s (repeated n a) = ⊥
AreSlim s (unary op a) = ⊥
AreSlim s (binary op a b) = ⊥
AreSlim s (choice c a b) = ⊥
