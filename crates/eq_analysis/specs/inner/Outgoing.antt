-- Mirrors src/outputs.rt; nothing here has to be believed.
use Rattle.std.specs.Prelude.{ℕ, ◌-◌, min}
use Rattle.eq_vparse.specs.declared.tree.GateKind.{GateKind}
use Rattle.eq_vparse.specs.declared.tree.GateKind.TheVariants as kind

-- how many of n terminals are outputs
abbrev pub outputs : GateKind → ℕ → ℕ
outputs kind.Buf n = n - 1
outputs kind.Not n = n - 1
outputs kind.And n = min n 1
outputs kind.Nand n = min n 1
outputs kind.Or n = min n 1
outputs kind.Nor n = min n 1
outputs kind.Xor n = min n 1
outputs kind.Xnor n = min n 1
