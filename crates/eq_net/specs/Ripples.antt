-- Operations on numbers bit by bit, from the lowest bit up, as circuits compute them.
use Rattle.std.specs.Prelude.{ℕ, zero, suc, ◌+◌, ◌-◌, Bool, true, false, not, ◌&&◌, cond, nat_le, nat_lt}
use Rattle.eq_net.specs.Numbers.{Digits, differ}

-- the carry into bit n of a sum
abbrev pub carry : Bool → Digits → Digits → Digits
carry c a b zero = c
carry c a b (suc n) = cond {A = Bool} (differ (a n) (b n)) (carry c a b n) (a n)

-- whether the lowest n bits of a spell less than those of b
abbrev pub less : Digits → Digits → ℕ → Bool
less a b zero = false
less a b (suc n) = cond {A = Bool} (differ (a n) (b n)) (b n) (less a b n)

-- whether the lowest n bits are the same
abbrev pub same : Digits → Digits → ℕ → Bool
same a b zero = true
same a b (suc n) = same a b n && not (differ (a n) (b n))

-- the bits k places further up, with zeros below them, and of m bits those k places further down, with zeros above them
abbrev pub raised : ℕ → Digits → Digits
raised k a j = nat_le k j && a (j - k)

abbrev pub lowered : ℕ → ℕ → Digits → Digits
lowered m k a j = nat_lt j (m - k) && a (k + j)
