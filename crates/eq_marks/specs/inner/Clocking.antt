-- Mirrors src/clocking.rt; nothing here has to be believed.
-- The class of a clock while it is found.
use Rattle.std.specs.Prelude.{◌≡◌, ℕ, ◌<◌, List, Bool, length, slice_index_or, Option, Some, None, IfSome, is_some}
use Rattle.eq_verilog.specs.Clocks.{leads_to}
use Rattle.eq_marks.specs.inner.Carrying.{mark_of}

-- bits are copies of bits
abbrev pub AreWithin : List (Option ℕ) → Type 0
AreWithin copies = (b d : ℕ) → b < length copies → mark_of copies b ≡ Some d → d < length copies

-- copies lead from bit b to bit c
abbrev pub leads : List (Option ℕ) → ℕ → ℕ → Bool
leads copies c b = leads_to (mark_of copies) (length copies) c b

-- what is known of bit b
abbrev pub known_of : List (Option Bool) → ℕ → Option Bool
known_of known b = slice_index_or known b None

-- what is known is so
pub record AreKnown (copies : List (Option ℕ)) (c : ℕ) (known : List (Option Bool)) : Type 0 where
  pub size : length known ≡ length copies
  pub right : (b : ℕ) → b < length copies → IfSome (known_of known b) (λ x. x ≡ leads copies c b)

-- those bits have marks from which copies lead to bit c
pub record IsClass (copies : List (Option ℕ)) (c : ℕ) (class : List (Option ℕ)) : Type 0 where
  pub size : length class ≡ length copies
  pub each : (b : ℕ) → b < length copies → is_some (mark_of class b) ≡ leads copies c b
