-- Mirrors src/cells/gates.rt, src/cells/rows.rt and src/cells/shifts.rt; nothing here has to be believed.
-- What the cells compute that are made for one bit, and what becomes of them along the bits.
use Rattle.std.specs.Prelude.{ℕ, zero, suc, ◌+◌, ◌-◌, Bool, true, false, not, ◌&&◌, ◌||◌, cond, nat_le, nat_lt}
use Rattle.eq_net.specs.declared.cells.gates.Kind.{Kind}
use Rattle.eq_net.specs.declared.cells.gates.Kind.TheVariants.{And, Or, Xor, Xnor, Not, Choose, Less, Equal}
use Rattle.eq_net.specs.Numbers.{Digits, differ}

abbrev pub step_value : Kind → Bool → Bool → Bool → Bool
step_value And x y z = x && y
step_value Or x y z = x || y
step_value Xor x y z = differ x y
step_value Xnor x y z = not (differ x y)
step_value Not x y z = not x
step_value Choose x y z = cond {A = Bool} z x y
step_value Less x y z = cond {A = Bool} (differ y z) z x
step_value Equal x y z = x && not (differ y z)

-- what a value becomes over the lowest n bits
abbrev pub folded : Kind → Bool → ℕ → Digits → Digits → Bool
folded kind s zero a b = s
folded kind s (suc n) a b = step_value kind (folded kind s n a b) (a n) (b n)

-- of m bits, bit j of what is shifted by k, up where the truth value is 1, is one of them, and at which place it stands
abbrev pub takes : Bool → ℕ → ℕ → ℕ → Bool
takes true m k j = nat_le k j
takes false m k j = nat_lt j (m - k)

abbrev pub place : Bool → ℕ → ℕ → ℕ
place true k j = j - k
place false k j = k + j

abbrev pub moved : Bool → ℕ → ℕ → Digits → Digits
moved up m k a j = takes up m k j && a (place up k j)

-- one stage of a shift
abbrev pub staged : Bool → ℕ → ℕ → Bool → Digits → Digits
staged up m k t a j = cond {A = Bool} t (moved up m k a j) (a j)
