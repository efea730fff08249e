-- Mirrors src/gates.rt and src/rows.rt; nothing here has to be believed.
-- What the gates compute that are made for one bit, and what becomes of them along the bits.
use Rattle.std.specs.Prelude.{ℕ, zero, suc, Bool, not, ◌&&◌, ◌||◌, cond}
use Rattle.eq_net.specs.Numbers.{Digits, differ}
use Rattle.eq_blast.specs.declared.gates.Kind.{Kind}
use Rattle.eq_blast.specs.declared.gates.Kind.TheVariants.{And, Or, Xor, Xnor, Not, Choose, Less, Equal, Sum, Carry}

abbrev pub step_value : Kind → Bool → Bool → Bool → Bool
step_value And x y z = x && y
step_value Or x y z = x || y
step_value Xor x y z = differ x y
step_value Xnor x y z = not (differ x y)
step_value Not x y z = not x
step_value Choose x y z = cond {A = Bool} z x y
step_value Less x y z = cond {A = Bool} (differ y z) z x
step_value Equal x y z = x && not (differ y z)
step_value Sum x y z = differ (differ x y) z
step_value Carry x y z = cond {A = Bool} (differ x y) z x

-- whether the operands that are read are in a set
abbrev pub step_has : Kind → Bool → Bool → Bool → Bool
step_has And x y z = x && y
step_has Or x y z = x && y
step_has Xor x y z = x && y
step_has Xnor x y z = x && y
step_has Not x y z = x
step_has Choose x y z = z && (x && y)
step_has Less x y z = (y && z) && (z && x)
step_has Equal x y z = x && (y && z)
step_has Sum x y z = (x && y) && z
step_has Carry x y z = (x && y) && (z && x)

abbrev pub step_cost : Kind → ℕ
step_cost And = 1
step_cost Or = 4
step_cost Xor = 1
step_cost Xnor = 2
step_cost Not = 1
step_cost Choose = 1
step_cost Less = 2
step_cost Equal = 3
step_cost Sum = 2
step_cost Carry = 2

-- what a value becomes over the lowest n bits
abbrev pub folded : Kind → Bool → ℕ → Digits → Digits → Bool
folded kind s zero a b = s
folded kind s (suc n) a b = step_value kind (folded kind s n a b) (a n) (b n)
