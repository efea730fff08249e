-- Designs without registers, which are compared in one cycle.
use Rattle.std.specs.Prelude.{◌≡◌, ℕ, ◌<◌, Bool}
use Rattle.eq_model.specs.System.{Values, Driver, input, undriven, equation, register, Cycle, nothing}
use Rattle.eq_model.specs.Run.{Design, key, dir}
use Rattle.eq_model.specs.Nets.{Key, is_output}

-- no register
abbrev pub IsPlain : Driver → Type 0
IsPlain input = Unit {0}
IsPlain undriven = Unit {0}
IsPlain (equation e) = Unit {0}
IsPlain (register init e) = ⊥

abbrev pub IsCombinational : Design → Type 0
IsCombinational d = (b : ℕ) → b < d.bits → IsPlain (d.driver b)

-- for all values of the inputs, outputs of one name and place have the same value
abbrev pub SameValues : Design → Design → Type 0
SameValues gold gate = (given : Key → Bool) (v w : Values) →
    Cycle gold.system nothing (λ b. given (key gold b)) v →
    Cycle gate.system nothing (λ b. given (key gate b)) w →
    (a b : ℕ) → a < gold.bits → b < gate.bits → dir gold a ≡ is_output → dir gate b ≡ is_output →
    key gold a ≡ key gate b → v a ≡ w b
