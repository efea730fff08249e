-- Positions and indices: the position of an index that lies in a range is one of its bits, and has this index.
use Rattle.std.proofs.Common.{◌≡◌, ℕ, ◌+◌, ◌-◌, ◌<◌, ◌≤◌, max, min, Bool, true, false, nat_le, cond, Some, arith, ◌⊎◌, inl, inr}
use Rattle.std.proofs.lemmas.Bool.{and_parts, leb-true}
use Rattle.std.proofs.lemmas.Bool.Decides.{leb_tells}
use Rattle.eq_model.specs.Nets.{range_width}
use Rattle.eq_verilog.specs.Trees.{Range}
use Rattle.eq_verilog.specs.Scopes.{is_falling, position, index_at, is_inside}

-- an index between two bounds, in either direction
between : (l r i : ℕ) → is_inside (l, r) i ≡ true → (min l r ≤ i) × (i ≤ max l r)
between l r i h =
    let parts = and_parts (nat_le (min l r) i) (nat_le i (max l r)) h in
    (leb-true (min l r) i parts.0, leb-true i (max l r) parts.1)

module _ (l r i : ℕ) (inside : (min l r ≤ i) × (i ≤ max l r)) where
  there_at : (t : Bool) → (t ≡ true) × (r ≤ l) ⊎ ((t ≡ false) × (l < r)) →
      (cond {A = ℕ} t (r + cond {A = ℕ} t (i - r) (r - i)) (r - cond {A = ℕ} t (i - r) (r - i)) ≡ i)
      × (cond {A = ℕ} t (i - r) (r - i) < (max l r - min l r) + 1)
  there_at true (inl h) = (let a = inside.0 in let b = inside.1 in let d = h.1 in (omega arith, omega arith))
  there_at false (inl h) = absurd (cc)
  there_at true (inr h) = absurd (cc)
  there_at false (inr h) = (let a = inside.0 in let b = inside.1 in let d = h.1 in (omega arith, omega arith))

-- the bit of an index is there, and has the index
pub there_and_back : (r : Range) (i : ℕ) → is_inside r i ≡ true →
    (index_at r (position (Some r) i) ≡ i) × (position (Some r) i < range_width (Some r))
there_and_back r i h = there_at r.0 r.1 i (between r.0 r.1 i h) (is_falling r) (leb_tells r.1 r.0)
