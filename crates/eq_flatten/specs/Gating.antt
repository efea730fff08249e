-- Gates as operators on their inputs, joined.
use Rattle.std.specs.Prelude.{◌≡◌, ◌-◌, ℕ, List, [], ◌∷◌, Option, Some, None}
use Rattle.eq_vparse.specs.declared.tree.GateKind.{GateKind}
use Rattle.eq_vparse.specs.declared.tree.GateKind.TheVariants as kind
use Rattle.eq_vparse.specs.declared.tree.UnOp.{UnOp}
use Rattle.eq_vparse.specs.declared.tree.UnOp.TheVariants as un
use Rattle.eq_verilog.specs.Trees.{ExprTree}
use Rattle.eq_verilog.specs.Scopes.{Scope}
use Rattle.eq_verilog.specs.Sizes.{own}

abbrev pub operator : GateKind → Option UnOp
operator kind.And = Some un.RedAnd
operator kind.Nand = Some un.RedNand
operator kind.Or = Some un.RedOr
operator kind.Nor = Some un.RedNor
operator kind.Xor = Some un.RedXor
operator kind.Xnor = Some un.RedXnor
operator kind.Buf = None
operator kind.Not = Some un.Not

-- how many of n terminals are outputs
abbrev pub outputs_of : GateKind → ℕ → ℕ
outputs_of kind.Buf n = n - 1
outputs_of kind.Not n = n - 1
outputs_of _ n = 1

-- each is of one bit
abbrev pub AreBits : Scope → List ExprTree → Type 0
AreBits s [] = Unit {0}
AreBits s (e ∷ es) = (own s e ≡ 1) × AreBits s es

-- a buffer and an inverter have one input
abbrev pub HasInputs : GateKind → ℕ → Type 0
HasInputs kind.Buf n = n ≡ 1
HasInputs kind.Not n = n ≡ 1
HasInputs _ n = Unit {0}
