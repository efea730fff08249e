-- Cited by proofs alone; nothing here has to be believed.
-- What a stack of truth values has after something was written on it.
use Rattle.std.specs.Prelude.{◌≡◌, ℕ, ◌+◌, ◌<◌, List, Bool, false, length, slice_index_or}
use Rattle.eq_net.specs.Numbers.{Digits}

-- the digits that stand from a place on
abbrev pub part : List Bool → ℕ → Digits
part stack from i = slice_index_or stack (from + i) false

-- the value at one place is b now, and all others are as they were
pub record Sets (at : ℕ) (b : Bool) (old new : List Bool) : Type 0 where
  pub size : length new ≡ length old
  pub there : slice_index_or new at false ≡ b
  pub below : (k : ℕ) → k < at → slice_index_or new k false ≡ slice_index_or old k false
  pub above : (k : ℕ) → at < k → slice_index_or new k false ≡ slice_index_or old k false

-- from a place on it has the first w digits of f and nothing else, and below it is as it was
pub record Replaces (from : ℕ) (f : Digits) (w : ℕ) (old new : List Bool) : Type 0 where
  pub size : length new ≡ from + w
  pub kept : (k : ℕ) → k < from → slice_index_or new k false ≡ slice_index_or old k false
  pub put : (j : ℕ) → j < w → part new from j ≡ f j

-- it has grown by the first w digits of f
abbrev pub Grows : Digits → ℕ → List Bool → List Bool → Type 0
Grows f w old new = Replaces (length old) f w old new
