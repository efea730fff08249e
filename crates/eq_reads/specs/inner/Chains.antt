-- Cited by proofs alone; nothing here has to be believed.
-- Chains of steps.
use Rattle.std.specs.Prelude.{◌≡◌, ℕ, zero, suc}

-- a chain of n steps leads from a to b
abbrev pub Chain : (ℕ → ℕ → Type 0) → ℕ → ℕ → ℕ → Type 0
Chain J zero a b = a ≡ b
Chain J (suc n) a b = (c : ℕ) × Chain J n a c × J c b
