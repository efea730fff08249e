-- Mirrors src/shifts.rt; nothing here has to be believed.
-- Shifts in either direction, up where the truth value is 1.
use Rattle.std.specs.Prelude.{ℕ, suc, ◌+◌, ◌-◌, Bool, true, false, ◌&&◌, cond, nat_le, nat_lt}
use Rattle.eq_net.specs.Numbers.{Digits, all_ones}

-- of m bits, bit j of what is shifted by k is one of them, and at which place it stands
abbrev pub takes : Bool → ℕ → ℕ → ℕ → Bool
takes true m k j = nat_le k j
takes false m k j = nat_lt j (m - k)

abbrev pub place : Bool → ℕ → ℕ → ℕ
place true k j = j - k
place false k j = k + j

abbrev pub moved : Bool → ℕ → ℕ → Digits → Digits
moved up m k a j = takes up m k j && a (place up k j)

-- whether all bits are in a set that come to place j in some shift
abbrev pub own : Bool → ℕ → Digits → Digits
own true m a j = all_ones (suc j) a
own false m a j = all_ones (m - j) (λ i. a (j + i))

-- one stage
abbrev pub staged : Bool → ℕ → ℕ → Bool → Digits → Digits
staged up m k t a j = cond {A = Bool} t (moved up m k a j) (a j)

abbrev pub staged_has : Bool → ℕ → ℕ → Bool → Digits → Digits
staged_has up m k t a j = t && (cond {A = Bool} (takes up m k j) (a (place up k j)) true && a j)
