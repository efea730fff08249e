-- Gates, and the bits of a module's nets.
use Rattle.std.proofs.Common.{◌≡◌, ℕ, ◌+◌, ◌-◌, ◌*◌, min, List, [], ◌∷◌, length, sym, ap, ◌∙◌, arith}
use Rattle.std.specs.Prelude.{sum_by}
use Rattle.std.proofs.lemmas.List.{length-take, length-drop}
use Rattle.std.proofs.lemmas.List.Sums.{sum_by-cons}
use Rattle.eq_vparse.specs.declared.tree.GateKind.{GateKind}
use Rattle.eq_vparse.specs.declared.tree.GateKind.TheVariants as kind
use Rattle.eq_verilog.specs.Trees.{Name, ExprTree, ModuleTree}
use Rattle.eq_verilog.specs.Scopes.{width}
use Rattle.eq_verilog.specs.Declarations.{nets_in}
use Rattle.eq_verilog.specs.Equations.{gate_inputs, gate_outputs}
use Rattle.eq_verilog.specs.Nets.{module_scope}
use Rattle.eq_analysis.specs.declared.placing.Places.{Places}
use Rattle.eq_analysis.specs.Placing.{ArePlaces, bits_at, end_of}
use Rattle.eq_cost.specs.Counts.{told}
use Rattle.eq_cost.specs.inner.Gates.{outputs}

-- ---- gates

less_one : (n : ℕ) → min (n - 1) n ≡ n - 1
less_one n = omega arith

one_of : (n : ℕ) → min 1 n ≡ min n 1
one_of n = omega arith

rest_of : (n : ℕ) → n - 1 ≡ n - min n 1
rest_of n = omega arith

module _ (es : List ExprTree) where
  pub outputs_are : (k : GateKind) → length (gate_outputs k es) ≡ outputs k (length es)
  outputs_are kind.Buf = length-take (length es - 1) es ∙ less_one (length es)
  outputs_are kind.Not = length-take (length es - 1) es ∙ less_one (length es)
  outputs_are kind.And = length-take 1 es ∙ one_of (length es)
  outputs_are kind.Nand = length-take 1 es ∙ one_of (length es)
  outputs_are kind.Or = length-take 1 es ∙ one_of (length es)
  outputs_are kind.Nor = length-take 1 es ∙ one_of (length es)
  outputs_are kind.Xor = length-take 1 es ∙ one_of (length es)
  outputs_are kind.Xnor = length-take 1 es ∙ one_of (length es)

  pub inputs_are : (k : GateKind) → length (gate_inputs k es) ≡ length es - outputs k (length es)
  inputs_are kind.Buf = length-drop (length es - 1) es
  inputs_are kind.Not = length-drop (length es - 1) es
  inputs_are kind.And = length-drop 1 es ∙ rest_of (length es)
  inputs_are kind.Nand = length-drop 1 es ∙ rest_of (length es)
  inputs_are kind.Or = length-drop 1 es ∙ rest_of (length es)
  inputs_are kind.Nor = length-drop 1 es ∙ rest_of (length es)
  inputs_are kind.Xor = length-drop 1 es ∙ rest_of (length es)
  inputs_are kind.Xnor = length-drop 1 es ∙ rest_of (length es)

pub five_times : (m p q : ℕ) → p ≡ told (4 * m) → q ≡ told (p + 1) → told q ≡ told (4 * m + 1)
five_times m p q e f = omega arith

-- ---- the bits of nets

ends_at : (a b c d : ℕ) → d ≡ (a + b) + c → d ≡ a + (b + c)
ends_at a b c d e = omega arith

none_at : (a : ℕ) → a ≡ a + 0
none_at a = omega arith

ends_with : (w : Name → ℕ) (a : ℕ) (ns : List Name) → end_of w a ns ≡ a + sum_by w ns
ends_with w a [] = none_at a
ends_with w a (n ∷ ns) =
    ends_at a (w n) (sum_by w ns) (end_of w (a + w n) ns) (ends_with w (a + w n) ns)
    ∙ ap (λ k. a + k) (sym (sum_by-cons w n ns))

from_none : (n m : ℕ) → n ≡ 0 + m → n ≡ m
from_none n m e = omega arith

-- all bits of a module
pub all_bits : (m : ModuleTree) (p : Places) → ArePlaces m p →
    p.starts.total ≡ sum_by (width (module_scope m)) (nets_in m)
all_bits m p are =
    are.ends
    ∙ from_none (end_of (bits_at m) 0 p.names) (sum_by (bits_at m) p.names) (ends_with (bits_at m) 0 p.names)
    ∙ ap (λ (ns : List Name). sum_by (bits_at m) ns) are.names
