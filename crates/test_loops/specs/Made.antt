-- One net of n bits, and two words over it: at each bit the conjunction of two bits of the net, and one bit of the net.
use Rattle.std.specs.Prelude.{◌≡◌, ℕ, ◌<◌, List, [], ◌∷◌}
use Rattle.eq_names.specs.declared.BitName.{BitName}
use Rattle.eq_net.specs.declared.types.Driver.{Driver}
use Rattle.eq_net.specs.declared.types.Driver.TheVariants.{Input, Undriven, Expr, Reg}

-- a bit of the net
pub record IsNamed (n : ℕ) (b : BitName) : Type 0 where
  pub net : b.net ≡ 0
  pub bit : b.bit < n

-- a driver that names a bit of one of the two words, if any
abbrev pub IsDriven : ℕ → Driver → Type 0
IsDriven n Input = Unit {0}
IsDriven n Undriven = Unit {0}
IsDriven n (Expr w j) = (w < 2) × (j < n)
IsDriven n (Reg init w j) = (w < 2) × (j < n)
