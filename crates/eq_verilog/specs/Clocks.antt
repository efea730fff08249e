-- Where plain copies lead, and who takes a clock as data.
use Rattle.std.specs.Prelude.{ℕ, zero, suc, Bool, false, ◌==◌, if◌then◌else◌, Option, Some, None}
use Rattle.std.specs.List.{list_any}
use Rattle.eq_model.specs.System.{System, reads_ever}
use Rattle.eq_net.specs.Meaning.{if_there}

abbrev pub is_bit : ℕ → Option ℕ → Bool
is_bit b o = if_there false (λ c. c == b) o

-- where plain copies lead from bit b in fewer than k steps: to a bit that is no copy
abbrev pub end_of : (ℕ → Option ℕ) → ℕ → ℕ → Option ℕ
end_of copy zero b = None
end_of copy (suc k) b = if_there (Some b) (end_of copy k) (copy b)

-- among n bits, plain copies lead from b to c, which is no copy. So b is c, or has its value by wiring alone. No bit of
-- a ring of copies leads anywhere
abbrev pub leads_to : (ℕ → Option ℕ) → ℕ → ℕ → ℕ → Bool
leads_to copy n c b = is_bit c (end_of copy n b)

-- The class of a clock c is c and all bits that lead to it. Bit b takes the clock as data where it is outside the class
-- and reads a bit of it, a register's next value included, or where it is in the class and a bit of an output
abbrev pub takes_as_data : System → (ℕ → Option ℕ) → (ℕ → Bool) → ℕ → ℕ → Bool
takes_as_data s copy is_out c b =
    if leads_to copy s.bits c b then is_out b else list_any (leads_to copy s.bits c) (reads_ever (s.driver b))
