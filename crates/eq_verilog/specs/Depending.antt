-- That a driver's value depends on the bits alone that it reads.
use Rattle.std.specs.Prelude.{◌≡◌, ℕ, Contains}
use Rattle.eq_model.specs.System.{Values, Expr as Formula, Driver, input, undriven, equation, register}

-- values that agree on the bits that are read give the same value
abbrev pub DependsOnReads : Formula → Type 0
DependsOnReads f = (v u : Values) → ((b : ℕ) → Contains f.reads b → v b ≡ u b) → f.value v ≡ f.value u

abbrev pub DriverDepends : Driver → Type 0
DriverDepends input = Unit {0}
DriverDepends undriven = Unit {0}
DriverDepends (equation e) = DependsOnReads e
DriverDepends (register i e) = DependsOnReads e
