-- When two designs are the same one: the same nets, ports and clock, and the same equations bit by bit.
use Rattle.std.specs.Prelude.{◌≡◌, ℕ, ◌<◌, Contains, ◌↔◌}
use Rattle.eq_model.specs.System.{Values, Expr, Driver, input, undriven, equation, register, System}
use Rattle.eq_model.specs.Run.{Design}

-- the same reads, as sets, and the same value for all values of the bits
pub record SameExpr (e f : Expr) : Type 0 where
  pub reads : (b : ℕ) → Contains e.reads b ↔ Contains f.reads b
  pub value : (v : Values) → e.value v ≡ f.value v

-- the same kind of driver, the same initial value and the same expression
abbrev pub SameDriver : Driver → Driver → Type 0
SameDriver input input = Unit {0}
SameDriver undriven undriven = Unit {0}
SameDriver (equation e) (equation f) = SameExpr e f
SameDriver (register i e) (register j f) = (i ≡ j) × SameExpr e f
SameDriver _ _ = ⊥

-- the same bits with the same drivers
pub record SameSystem (s t : System) : Type 0 where
  pub bits : s.bits ≡ t.bits
  pub drivers : (b : ℕ) → b < s.bits → SameDriver (s.driver b) (t.driver b)

-- the two designs agree in every point. How an expression is written isn't one
pub record SameDesign (d e : Design) : Type 0 where
  pub system : SameSystem d.system e.system
  pub nets : d.nets ≡ e.nets
  pub ports : d.ports ≡ e.ports
  pub clock : d.clock ≡ e.clock
  pub copies : (b : ℕ) → b < d.bits → d.copy_of b ≡ e.copy_of b
