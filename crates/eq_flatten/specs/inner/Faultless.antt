-- Cited by proofs alone; nothing here has to be believed.
-- What is known of the nets of an instance whose module isn't refused, and of its expressions.
use Rattle.std.specs.Prelude.{◌≡◌, ◌<◌, ◌≤◌, ◌+◌, ℕ, length, List, true}
use Rattle.eq_model.specs.Nets.{range_width}
use Rattle.eq_net.specs.declared.types.NetInfo.{NetInfo}
use Rattle.eq_verilog.specs.Trees.{Name, ExprTree, ModuleTree}
use Rattle.eq_verilog.specs.Declarations.{has, names_in, nets_in, range_of}
use Rattle.eq_verilog.specs.Nets.{module_scope}
use Rattle.eq_verilog.specs.ModuleRefusals.{most_bits}
use Rattle.eq_analysis.specs.Finding.{net_in, scope_of}

-- these are the nets of an instance of the module, from net `from` on, each as its module declares it
pub record AreNetsOf (m : ModuleTree) (nets : List NetInfo) (from : ℕ) : Type 0 where
  pub there : (n : Name) → has (nets_in m) n ≡ true → net_in (nets_in m) from n < length nets
  pub range : (n : Name) → has (nets_in m) n ≡ true → (scope_of nets (nets_in m) from).range n ≡ range_of m n
  -- the number of its first bit
  pub start : ℕ
  pub first : (n : Name) → has (nets_in m) n ≡ true →
      (scope_of nets (nets_in m) from).first n ≡ start + (module_scope m).first n
  pub narrow : (n : Name) → has (nets_in m) n ≡ true → range_width (range_of m n) ≤ most_bits

-- the names of an expression are nets of the module
abbrev pub HasNames : ModuleTree → ExprTree → Type 0
HasNames m e = (n : Name) → has (names_in e) n ≡ true → has (nets_in m) n ≡ true
