-- A combinational loop, told by its first bit and a chain of bits that leads back to it. It is a loop of reads within a cycle,
-- whether or not values would settle (IEEE 1364-2005, 6.1, has no order among continuous assignments).
use Rattle.std.specs.Prelude.{◌≢◌, ℕ, ◌<◌, List, [], ◌∷◌, All, AllPairs}
use Rattle.eq_model.specs.System.{System, IsChain}
use Rattle.eq_verilog.specs.Refusals.{IsFirstOnLoop}

-- b is the first bit on any loop, and it and these bits are distinct, each reads the next within a cycle, and the last b
pub record IsCycleFrom (s : System) (b : ℕ) (bits : List ℕ) : Type 0 where
  pub first : IsFirstOnLoop s b
  pub bound : All (λ c. c < s.bits) (b ∷ bits)
  pub apart : AllPairs (λ c d. c ≢ d) (b ∷ bits)
  pub chain : IsChain s b bits b

-- distinct bits, each reading the next within a cycle and the last reading the first, which is the first bit on any loop
abbrev pub IsCycle : System → List ℕ → Type 0
IsCycle s [] = ⊥
IsCycle s (b ∷ bits) = IsCycleFrom s b bits
